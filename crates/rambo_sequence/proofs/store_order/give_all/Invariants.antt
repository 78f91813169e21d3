use Rattle.std.proofs.Common.{◌≡◌, ◌++◌, take}
use Rattle.rambo_sequence.specs.CallPlaces.{lists, joined}
use Rattle.rambo_sequence.proofs.store_order.give_all.Given as goal

abbrev pub invariant-loop-calls : goal.invariant-loop-calls
invariant-loop-calls l = l.order.items ≡ l.fn.order.items ++ joined (take l.calls-index (lists l.left))
