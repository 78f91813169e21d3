use Rattle.rambo_check.proofs.TextLaws.{no_told_is_faulty_is}
use Rattle.rambo_check.proofs.laws.no_told_is_faulty.Goals as goal

pub returns : goal.returns
returns c = no_told_is_faulty_is
