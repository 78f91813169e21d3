use Rattle.std.proofs.Common.{◌≡◌, length}
use Rattle.rambo_check.specs.Verdicts.{all_yes}
use Rattle.rambo_check.proofs.verdict_text.all_yes.Given as goal

abbrev pub invariant-loop-key : goal.invariant-loop-key
invariant-loop-key l = all_yes l.rest ≡ all_yes l.verdicts.entries

abbrev pub decreases-loop-key : goal.decreases-loop-key
decreases-loop-key l = length l.rest
