use Rattle.rambo_lines.proofs.BothVersions.{one_script}
use Rattle.rambo_lines.proofs.laws.one_reading.Goals as goal

pub returns : goal.returns
returns c = one_script
