use Rattle.rambo_sequence.proofs.GivenOrder.{order_is}
use Rattle.rambo_sequence.proofs.laws.given_is_order.Goals as goal

pub returns : goal.returns
returns c = order_is
