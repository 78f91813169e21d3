use Rattle.std.proofs.Common.{◌≡◌, length}
use Rattle.rambo_atomic.specs.Tests.{keeps_real_time}
use Rattle.rambo_atomic.proofs.rules.keeps_real_time.Given as goal

abbrev pub invariant-loop-id : goal.invariant-loop-id
invariant-loop-id l = keeps_real_time l.history.events 0 l.order ≡ keeps_real_time l.history.events l.latest l.rest

abbrev pub decreases-loop-id : goal.decreases-loop-id
decreases-loop-id l = length l.rest
