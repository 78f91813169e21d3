use Rattle.rambo_sequence.proofs.NotedCalls.{joined_more}
use Rattle.rambo_sequence.proofs.store_order.give_all.Goals as goal

pub loop-calls-preserved : goal.loop-calls-preserved
loop-calls-preserved c =
    joined_more c.args.left.now c.loop-calls.calls-index c.calls-item.result c.args.order.now.items c.loop-calls.order.items c.extend_from_slice.new.self.items
    c.loop-calls.invariant c.loop-calls-test.true c.calls-item.is c.in_ok-extend_from_slice.ensures.items
