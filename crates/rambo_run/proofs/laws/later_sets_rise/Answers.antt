use Rattle.rambo_run.proofs.LaterClaims.{later_sets_rise}
use Rattle.rambo_run.proofs.laws.later_sets_rise.Goals as goal

pub returns : goal.returns
returns g c = record { raised = later_sets_rise g.Q.Quorums.system g.met.Q.Quorums.sound }
