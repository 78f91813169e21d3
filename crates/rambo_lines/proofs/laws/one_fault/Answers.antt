use Rattle.rambo_lines.proofs.BothVersions.{one_fault_in}
use Rattle.rambo_lines.proofs.laws.one_fault.Goals as goal

pub returns : goal.returns
returns c = one_fault_in
