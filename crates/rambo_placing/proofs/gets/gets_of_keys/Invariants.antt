use Rattle.std.proofs.Common.{◌≡◌, ◌++◌, ℕ, List, length}
use Rattle.rambo_placing.specs.Placings.{gets_of}
use Rattle.rambo_placing.specs.Tables.{calls_at}
use Rattle.rambo_placing.proofs.gets.gets_of_keys.Given as goal

abbrev pub invariant-loop-event : goal.invariant-loop-event
invariant-loop-event l = (q : List ℕ) → calls_at l.gets.entries q ++ gets_of q l.rest ≡ gets_of q l.history.events

abbrev pub decreases-loop-event : goal.decreases-loop-event
decreases-loop-event l = length l.rest
