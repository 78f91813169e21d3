use Rattle.std.proofs.Common.{◌≡◌, length}
use Rattle.rambo_calls.specs.Hearing.{any_gap}
use Rattle.rambo_calls.specs.Kept.{calls_of}
use Rattle.rambo_calls.proofs.open_calls.any_gap.Given as goal

abbrev pub invariant-loop-call : goal.invariant-loop-call
invariant-loop-call g l = any_gap l.heard l.map (calls_of l.calls) ≡ any_gap l.heard l.map (calls_of l.rest)

abbrev pub decreases-loop-call : goal.decreases-loop-call
decreases-loop-call g l = length l.rest
