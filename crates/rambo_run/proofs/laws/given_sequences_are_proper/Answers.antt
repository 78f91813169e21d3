use Rattle.rambo_run.proofs.EveryRun.{is_atomic}
use Rattle.rambo_run.proofs.laws.given_sequences_are_proper.Goals as goal

pub returns : goal.returns
returns g c = record { proper = is_atomic g.Q.Quorums.system g.met.Q.Quorums.sound }
