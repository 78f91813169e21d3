use Rattle.std.proofs.Common.{◌≡◌, ◌+◌, ◌++◌, drop}
use Rattle.rambo_text.specs.Signs.{Grows}
use Rattle.rambo_check.specs.Lines.{items_text}
use Rattle.rambo_outcome.specs.Outcomes.{steps_items}
use Rattle.rambo_outcome.proofs.outcome.append_steps.Given as goal

abbrev pub invariant-loop-place : goal.invariant-loop-place
invariant-loop-place l = record {
  text : l.out.items ++ items_text (steps_items l.history.events (l.place + 1) (drop l.place l.results))
      ≡ l.initial.out.items ++ items_text (steps_items l.history.events 1 l.results);
  front : Grows l.initial.out.items l.out.items;
}
