use Rattle.rambo_witness.proofs.Unique.{one_witness_is}
use Rattle.rambo_witness.proofs.laws.one_witness.Goals as goal

pub returns : goal.returns
returns c = one_witness_is
