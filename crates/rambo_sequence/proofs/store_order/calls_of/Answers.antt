use Rattle.std.proofs.Common.{◌∙◌, ap}
use Rattle.rambo_sequence.specs.Sequences.{SequenceOf}
use Rattle.rambo_sequence.proofs.NotedCalls.{left_more}
use Rattle.rambo_sequence.proofs.store_order.calls_of.Goals as goal

pub loop-sequence-preserved : goal.loop-sequence-preserved
loop-sequence-preserved c =
    left_more c.args.sequences.now c.loop-sequence.sequence-index c.sequence-item.result c.loop-sequence.left.items c.push.new.self.items c.as_slice.result
    c.loop-sequence.invariant c.loop-sequence-test.true c.sequence-item.is c.in_ok-push.ensures.items (c.as_slice.ensures.value ∙ ap (λ (s : SequenceOf). s.calls) c.sequence.view_is)
