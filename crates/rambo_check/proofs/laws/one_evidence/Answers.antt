use Rattle.rambo_check.proofs.TextLaws.{one_evidence_is}
use Rattle.rambo_check.proofs.laws.one_evidence.Goals as goal

pub returns : goal.returns
returns c = one_evidence_is
