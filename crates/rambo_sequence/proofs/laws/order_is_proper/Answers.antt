use Rattle.rambo_sequence.proofs.MergedOrder.{all_proper}
use Rattle.rambo_sequence.proofs.laws.order_is_proper.Goals as goal

pub returns : goal.returns
returns c = all_proper
