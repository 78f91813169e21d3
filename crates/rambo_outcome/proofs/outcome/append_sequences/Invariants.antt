use Rattle.std.proofs.Common.{◌≡◌, ◌++◌, map, drop}
use Rattle.rambo_text.specs.Signs.{Grows}
use Rattle.rambo_check.specs.Lines.{Ordered, items_text}
use Rattle.rambo_outcome.proofs.outcome.append_sequences.Given as goal

abbrev pub invariant-loop-sequence : goal.invariant-loop-sequence
invariant-loop-sequence l = record {
  text : l.out.items ++ items_text (map Ordered (drop l.sequence-index l.sequences)) ≡ l.initial.out.items ++ items_text (map Ordered l.sequences);
  front : Grows l.initial.out.items l.out.items;
}
