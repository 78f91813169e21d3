use Rattle.std.proofs.Common.{◌≡◌, ◌+◌, length, None}
use Rattle.std.specs.Map.{lookup}
use Rattle.rambo_history.specs.declared.event.CallId.{CallId}
use Rattle.rambo_history.specs.Calls.{same_call}
use Rattle.rambo_sequence.specs.CallPlaces.{all_noted}
use Rattle.rambo_sequence.proofs.store_order.places_of.Given as goal

abbrev pub invariant-loop-sequence : goal.invariant-loop-sequence
invariant-loop-sequence l =
    ((c : CallId) → all_noted 0 l.sequences c None ≡ all_noted l.number l.rest c (lookup (same_call c) l.places.entries)) × (l.number + length l.rest ≡ length l.sequences)

abbrev pub decreases-loop-sequence : goal.decreases-loop-sequence
decreases-loop-sequence l = length l.rest
