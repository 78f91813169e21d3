use Rattle.std.proofs.Common.{length}
use Rattle.std.specs.Map.{lookup}
use Rattle.rambo_history.specs.Calls.{same_call}
use Rattle.rambo_sequence.specs.CallPlaces.{lists}
use Rattle.rambo_sequence.proofs.NotedCalls.{SoFar}
use Rattle.rambo_sequence.proofs.store_order.one_order.Given as goal

abbrev pub invariant-loop-event : goal.invariant-loop-event
invariant-loop-event l = SoFar (λ c. lookup (same_call c) l.places.entries) l.history.events l.sequences l.order.items (lists l.left.items) l.events

abbrev pub decreases-loop-event : goal.decreases-loop-event
decreases-loop-event l = length l.events
