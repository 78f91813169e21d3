use Rattle.rambo_check.proofs.TextLaws.{one_reading_is}
use Rattle.rambo_check.proofs.laws.one_reading.Goals as goal

pub returns : goal.returns
returns c = one_reading_is
