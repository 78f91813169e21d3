use Rattle.std.proofs.Common.{◌≡◌, ◌++◌, map, drop}
use Rattle.rambo_text.specs.Signs.{Grows}
use Rattle.rambo_check.specs.Lines.{items_text}
use Rattle.rambo_outcome.specs.Outcomes.{map_item}
use Rattle.rambo_outcome.proofs.outcome.append_maps.Given as goal

abbrev pub invariant-loop-node : goal.invariant-loop-node
invariant-loop-node l = record {
  text : l.out.items ++ items_text (map map_item (drop l.node-index l.maps)) ≡ l.initial.out.items ++ items_text (map map_item l.maps);
  front : Grows l.initial.out.items l.out.items;
}
