use Rattle.rambo_sequence.proofs.OneOrder.{one_sequence as one_sequence-is}
use Rattle.rambo_sequence.proofs.laws.one_sequence.Goals as goal

pub returns : goal.returns
returns c = one_sequence-is
