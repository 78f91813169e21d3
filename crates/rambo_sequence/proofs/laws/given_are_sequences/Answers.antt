use Rattle.rambo_sequence.proofs.OneList.{given_are_sequences as given_are_sequences-is}
use Rattle.rambo_sequence.proofs.laws.given_are_sequences.Goals as goal

pub returns : goal.returns
returns c = given_are_sequences-is
