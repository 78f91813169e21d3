use Rattle.std.proofs.Common.{◌≡◌, length}
use Rattle.std.specs.Map.{lookup}
use Rattle.rambo_history.specs.declared.event.CallId.{CallId}
use Rattle.rambo_history.specs.Calls.{same_call}
use Rattle.rambo_sequence.specs.CallPlaces.{noted}
use Rattle.rambo_sequence.proofs.store_order.note.Given as goal

abbrev pub invariant-loop-id : goal.invariant-loop-id
invariant-loop-id l =
    (c : CallId) → noted l.sequence l.calls c (lookup (same_call c) l.fn.places.entries) ≡ noted l.sequence l.rest c (lookup (same_call c) l.places.entries)

abbrev pub decreases-loop-id : goal.decreases-loop-id
decreases-loop-id l = length l.rest
