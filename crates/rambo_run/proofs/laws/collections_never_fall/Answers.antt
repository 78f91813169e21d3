use Rattle.rambo_run.proofs.CollectionClaims.{collections_never_fall}
use Rattle.rambo_run.proofs.laws.collections_never_fall.Goals as goal

pub returns : goal.returns
returns g c = record { carried = collections_never_fall g.Q.Quorums.system g.met.Q.Quorums.sound }
