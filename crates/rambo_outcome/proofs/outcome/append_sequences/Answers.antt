use Rattle.std.proofs.lemmas.Grind.{common_steps}
use Rattle.std.proofs.Common.{map, refl, arith}
use Rattle.rambo_check.specs.Lines.{Ordered, item_line, items_text}
use Rattle.rambo_outcome.proofs.Loops.{one_on, grows_on}
use Rattle.rambo_outcome.proofs.outcome.append_sequences.Goals as goal

pub loop-sequence-preserved : goal.loop-sequence-preserved
loop-sequence-preserved c = record {
  text = one_on (λ ss. items_text (map Ordered ss)) (λ s. item_line (Ordered s)) (λ s ss. refl) c.args.sequences.now c.loop-sequence.sequence-index c.sequence-item.result c.loop-sequence.out.items
      c.append_sequence.new.out.items _ c.loop-sequence-test.true c.sequence-item.is c.in_ok-append_sequence.ensures.ok c.loop-sequence.invariant.text;
  front = grows_on _ c.loop-sequence.out.items c.append_sequence.new.out.items (item_line (Ordered c.sequence-item.result)) c.in_ok-append_sequence.ensures.ok c.loop-sequence.invariant.front;
}

pub returns-clause-ok : goal.returns-clause-ok
returns-clause-ok c = grind (arith, common_steps)
