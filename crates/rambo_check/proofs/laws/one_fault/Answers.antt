use Rattle.rambo_check.proofs.TextLaws.{one_fault_is}
use Rattle.rambo_check.proofs.laws.one_fault.Goals as goal

pub returns : goal.returns
returns c = one_fault_is
