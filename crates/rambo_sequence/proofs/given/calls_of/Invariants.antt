use Rattle.std.proofs.Common.{◌≡◌, take}
use Rattle.rambo_sequence.specs.Marks.{marks_at}
use Rattle.rambo_sequence.specs.RankedCalls.{ranked_calls}
use Rattle.rambo_sequence.proofs.given.calls_of.Given as goal

abbrev pub invariant-loop-mark : goal.invariant-loop-mark
invariant-loop-mark l = l.calls.items ≡ ranked_calls l.history.events (marks_at l.history.events (take l.mark-index l.marks)) l.key
