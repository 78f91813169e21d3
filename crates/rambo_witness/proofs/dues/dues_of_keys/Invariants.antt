use Rattle.std.proofs.Common.{◌≡◌, ◌++◌, ℕ, List, Some, length}
use Rattle.rambo_witness.specs.Dues.{calls_at, dues_among}
use Rattle.rambo_witness.proofs.dues.dues_of_keys.Given as goal

abbrev pub invariant-loop-event : goal.invariant-loop-event
invariant-loop-event l =
    (q : List ℕ) → calls_at l.dues.entries q ++ dues_among l.history.events (Some q) l.rest ≡ dues_among l.history.events (Some q) l.history.events

abbrev pub decreases-loop-event : goal.decreases-loop-event
decreases-loop-event l = length l.rest
