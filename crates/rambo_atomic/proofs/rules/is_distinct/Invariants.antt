use Rattle.std.proofs.Common.{◌≡◌, length}
use Rattle.rambo_atomic.specs.Tests.{is_distinct}
use Rattle.rambo_atomic.proofs.rules.is_distinct.Given as goal

abbrev pub invariant-loop-id : goal.invariant-loop-id
invariant-loop-id l = is_distinct l.order ≡ is_distinct l.rest

abbrev pub decreases-loop-id : goal.decreases-loop-id
decreases-loop-id l = length l.rest
