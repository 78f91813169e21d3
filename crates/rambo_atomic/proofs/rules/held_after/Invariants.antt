use Rattle.std.proofs.Common.{◌≡◌, length, fold}
use Rattle.std.specs.Option.{option_copied}
use Rattle.rambo_history.specs.Histories.{call_in}
use Rattle.rambo_history.specs.Proper.{after_op, held_after}
use Rattle.rambo_atomic.proofs.rules.held_after.Given as goal

abbrev pub invariant-loop-id : goal.invariant-loop-id
invariant-loop-id l =
    held_after l.history.events l.key l.order ≡ fold (λ held c. after_op l.key (call_in l.history.events c) held) (option_copied l.held) l.rest

abbrev pub decreases-loop-id : goal.decreases-loop-id
decreases-loop-id l = length l.rest
