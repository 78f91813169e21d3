use Rattle.std.proofs.Common.{◌≡◌, ℕ, ◌+◌, List, length, true}
use Rattle.rambo_atomic.specs.Tallies.{all_due, count_with, how_many}
use Rattle.rambo_atomic.specs.Tests.{of_key, is_due}
use Rattle.rambo_atomic.proofs.checker.Checker.new.Given as goal

abbrev pub invariant-loop-event : goal.invariant-loop-event
invariant-loop-event l =
    ((q : List ℕ) → count_with l.answered.entries l.run.key.now l.run.len q + how_many (is_due l.history.events (of_key q)) l.rest ≡ how_many (is_due l.history.events (of_key q)) l.history.events)
    × (l.all_answered + how_many (is_due l.history.events (λ op. true)) l.rest ≡ all_due l.history.events)

abbrev pub decreases-loop-event : goal.decreases-loop-event
decreases-loop-event l = length l.rest
