use Rattle.rambo_run.proofs.Effects.{removed_places_are_told}
use Rattle.rambo_run.proofs.laws.removed_places_are_told.Goals as goal

pub returns : goal.returns
returns g c = record { told = removed_places_are_told g.Q.Quorums.system }
