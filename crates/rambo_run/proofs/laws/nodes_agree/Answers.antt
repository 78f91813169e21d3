use Rattle.rambo_run.proofs.EveryRun.{agrees}
use Rattle.rambo_run.proofs.laws.nodes_agree.Goals as goal

pub returns : goal.returns
returns g c = record { agree = agrees g.Q.Quorums.system g.met.Q.Quorums.sound }
