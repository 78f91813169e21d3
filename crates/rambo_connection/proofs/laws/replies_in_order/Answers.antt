use Rattle.rambo_connection.proofs.Stories.{in_order}
use Rattle.rambo_connection.proofs.laws.replies_in_order.Goals as goal

pub returns : goal.returns
returns c = in_order
