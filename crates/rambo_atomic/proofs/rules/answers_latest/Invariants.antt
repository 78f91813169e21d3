use Rattle.std.proofs.Common.{◌≡◌, ◌-◌, length, take, drop}
use Rattle.rambo_history.specs.Proper.{held_after}
use Rattle.rambo_atomic.specs.Tests.{all_told, none_held}
use Rattle.rambo_atomic.proofs.rules.answers_latest.Given as goal

abbrev pub invariant-loop-id : goal.invariant-loop-id
invariant-loop-id l =
    all_told l.history.events none_held l.order ≡ all_told l.history.events (λ key. held_after l.history.events key (take l.count l.order)) (drop l.count l.order)

abbrev pub decreases-loop-id : goal.decreases-loop-id
decreases-loop-id l = length l.order - l.count
