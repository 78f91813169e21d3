use Rattle.rambo_run.proofs.LaterClaims.{later_phases_read}
use Rattle.rambo_run.proofs.laws.later_phases_read.Goals as goal

pub returns : goal.returns
returns g c = record { read = later_phases_read g.Q.Quorums.system g.met.Q.Quorums.sound }
