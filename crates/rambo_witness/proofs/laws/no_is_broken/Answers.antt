use Rattle.rambo_witness.proofs.Broken.{no_is_broken_is}
use Rattle.rambo_witness.proofs.laws.no_is_broken.Goals as goal

pub returns : goal.returns
returns c = no_is_broken_is
