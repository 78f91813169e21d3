use Rattle.rambo_run.proofs.FirstCollections.{first_collections_are, first_collections_never_fall}
use Rattle.rambo_run.proofs.laws.first_collections_never_fall.Goals as goal

pub returns : goal.returns
returns g c = record { first = first_collections_are g.Q.Quorums.system; carried = first_collections_never_fall g.Q.Quorums.system g.met.Q.Quorums.sound }
