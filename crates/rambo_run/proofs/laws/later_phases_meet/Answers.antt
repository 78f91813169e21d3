use Rattle.rambo_run.proofs.LaterClaims.{later_phases_meet}
use Rattle.rambo_run.proofs.laws.later_phases_meet.Goals as goal

pub returns : goal.returns
returns g c = record { met = later_phases_meet g.Q.Quorums.system g.met.Q.Quorums.sound }
