use Rattle.rambo_sequence.proofs.OneOrderAlone.{one_order}
use Rattle.rambo_sequence.proofs.laws.one_store_order.Goals as goal

pub returns : goal.returns
returns c = one_order
