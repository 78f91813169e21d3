use Rattle.std.proofs.Common.{◌≡◌, take}
use Rattle.rambo_sequence.specs.CallPlaces.{lists}
use Rattle.rambo_sequence.proofs.NotedCalls.{calls_of}
use Rattle.rambo_sequence.proofs.store_order.calls_of.Given as goal

abbrev pub invariant-loop-sequence : goal.invariant-loop-sequence
invariant-loop-sequence l = lists l.left.items ≡ take l.sequence-index (calls_of l.sequences)
