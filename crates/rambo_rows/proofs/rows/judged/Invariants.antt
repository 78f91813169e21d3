use Rattle.std.proofs.Common.{length}
use Rattle.rambo_rows.proofs.SoFar.{SoFar}
use Rattle.rambo_rows.proofs.rows.judged.Given as goal

abbrev pub invariant-loop-rest : goal.invariant-loop-rest
invariant-loop-rest l = SoFar l.text l.rest l.tally.report.items l.tally.rows l.tally.wrong

abbrev pub decreases-loop-rest : goal.decreases-loop-rest
decreases-loop-rest l = length l.rest
