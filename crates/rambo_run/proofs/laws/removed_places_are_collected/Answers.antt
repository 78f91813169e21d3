use Rattle.rambo_run.proofs.CollectionClaims.{removed_places_are_collected}
use Rattle.rambo_run.proofs.laws.removed_places_are_collected.Goals as goal

pub returns : goal.returns
returns g c = record { collected = removed_places_are_collected g.Q.Quorums.system }
