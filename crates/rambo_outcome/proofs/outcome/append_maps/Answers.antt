use Rattle.std.proofs.lemmas.Grind.{common_steps}
use Rattle.std.proofs.Common.{rules, map, refl, arith}
use Rattle.rambo_check.specs.Lines.{item_line, items_text}
use Rattle.rambo_outcome.specs.Outcomes.{map_item}
use Rattle.rambo_outcome.proofs.Loops.{one_on, grows_on}
use Rattle.rambo_outcome.proofs.outcome.append_maps.Goals as goal

pub returns-in_err-append_map-clause-err : goal.returns-in_err-append_map-clause-err
returns-in_err-append_map-clause-err c =
    let more = c.in_err-append_map.ensures.err in
    search (rules, grows_on _ c.loop-node.out.items c.append_map.new.out.items more.0 more.1 c.loop-node.invariant.front)

pub loop-node-preserved : goal.loop-node-preserved
loop-node-preserved c = record {
  text = one_on (λ ms. items_text (map map_item ms)) (λ m. item_line (map_item m)) (λ m ms. refl) c.args.maps.now c.loop-node.node-index c.node-item.result c.loop-node.out.items c.append_map.new.out.items _
      c.loop-node-test.true c.node-item.is c.in_ok-append_map.ensures.ok c.loop-node.invariant.text;
  front = grows_on _ c.loop-node.out.items c.append_map.new.out.items (item_line (map_item c.node-item.result)) c.in_ok-append_map.ensures.ok c.loop-node.invariant.front;
}

pub returns-clause-ok : goal.returns-clause-ok
returns-clause-ok c = grind (arith, common_steps)
