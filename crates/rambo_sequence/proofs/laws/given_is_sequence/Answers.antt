use Rattle.rambo_sequence.proofs.OneOrder.{given_is_sequence as given_is_sequence-is}
use Rattle.rambo_sequence.proofs.laws.given_is_sequence.Goals as goal

pub returns : goal.returns
returns c = given_is_sequence-is
