use Rattle.rambo_placing.proofs.Orders.{keep-order}
use Rattle.rambo_placing.proofs.laws.others_keep_their_order.Goals as goal

pub returns : goal.returns
returns c = keep-order
