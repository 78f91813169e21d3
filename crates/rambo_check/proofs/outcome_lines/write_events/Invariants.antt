use Rattle.std.proofs.Common.{◌≡◌, ◌++◌, map, length}
use Rattle.rambo_check.specs.Lines.{Happened, items_text}
use Rattle.rambo_check.proofs.outcome_lines.write_events.Given as goal

abbrev pub invariant-loop-event : goal.invariant-loop-event
invariant-loop-event l = l.out.items ++ items_text (map Happened l.rest) ≡ l.initial.out.items ++ items_text (map Happened l.events)

abbrev pub decreases-loop-event : goal.decreases-loop-event
decreases-loop-event l = length l.rest
