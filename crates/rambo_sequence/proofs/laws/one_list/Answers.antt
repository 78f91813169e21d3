use Rattle.rambo_sequence.proofs.OneList.{one_list as one_list-is}
use Rattle.rambo_sequence.proofs.laws.one_list.Goals as goal

pub returns : goal.returns
returns c = one_list-is
