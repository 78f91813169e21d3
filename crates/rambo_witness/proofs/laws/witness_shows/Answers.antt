use Rattle.rambo_witness.proofs.Broken.{witness_shows_is}
use Rattle.rambo_witness.proofs.laws.witness_shows.Goals as goal

pub returns : goal.returns
returns c = witness_shows_is
