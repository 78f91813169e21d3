use Rattle.std.proofs.Common.{◌≡◌, ◌+◌, length}
use Rattle.rambo_calls.specs.Calls.{place_of}
use Rattle.rambo_calls.specs.Kept.{calls_of}
use Rattle.rambo_calls.proofs.open_calls.place_of.Given as goal

abbrev pub invariant-loop-call : goal.invariant-loop-call
invariant-loop-call g l = (place_of l.number (calls_of l.calls) ≡ l.count + place_of l.number (calls_of l.rest)) × (l.count + length l.rest ≡ length l.calls)

abbrev pub decreases-loop-call : goal.decreases-loop-call
decreases-loop-call g l = length l.rest
