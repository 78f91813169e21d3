use Rattle.rambo_lines.proofs.BothVersions.{no_script_faulty}
use Rattle.rambo_lines.proofs.laws.no_script_is_faulty.Goals as goal

pub returns : goal.returns
returns c = no_script_faulty
