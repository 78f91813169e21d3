use Rattle.std.proofs.Common.{take}
use Rattle.rambo_sequence.specs.Groups.{HasGroups}
use Rattle.rambo_sequence.specs.Marks.{marks_at}
use Rattle.rambo_sequence.proofs.groups.groups.Given as goal

abbrev pub invariant-loop-mark : goal.invariant-loop-mark
invariant-loop-mark l = HasGroups l.history.events (marks_at l.history.events (take l.mark-index l.marks)) l.groups.entries
