use Rattle.std.proofs.Common.{◌≡◌, ◌++◌, length}
use Rattle.rambo_check.specs.Verdicts.{verdicts_text}
use Rattle.rambo_check.proofs.verdict_text.verdict_text.Given as goal

abbrev pub invariant-loop-key : goal.invariant-loop-key
invariant-loop-key l = l.out.items ++ verdicts_text l.rest ≡ verdicts_text l.verdicts.entries

abbrev pub decreases-loop-key : goal.decreases-loop-key
decreases-loop-key l = length l.rest
