use Rattle.rambo_deltas.proofs.Bases.{old_copies_are_held}
use Rattle.rambo_deltas.proofs.laws.old_copies_are_held.Goals as goal

pub returns : goal.returns
returns g c = record { held = old_copies_are_held g.Q.Quorums.system }
