use Rattle.rambo_run.proofs.Decisions.{decisions_stand}
use Rattle.rambo_run.proofs.laws.decisions_stand.Goals as goal

pub returns : goal.returns
returns g c = record { stand = decisions_stand g.Q.Quorums.system }
