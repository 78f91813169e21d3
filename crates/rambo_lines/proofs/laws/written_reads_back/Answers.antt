use Rattle.rambo_lines.proofs.BothVersions.{reads_back_in}
use Rattle.rambo_lines.proofs.laws.written_reads_back.Goals as goal

pub returns : goal.returns
returns c = reads_back_in
