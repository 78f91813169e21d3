use Rattle.std.proofs.Common.{◌≡◌, ◌++◌, ℕ, List, length}
use Rattle.std.specs.List.{AllByRecursion}
use Rattle.rambo_atomic.specs.declared.verdict.Verdict.{Verdict}
use Rattle.std.specs.Prelude.{Some}
use Rattle.rambo_check.specs.Reasons.{AreExplained, IsVerdictWithin}
use Rattle.rambo_check.proofs.explaining.explained_text.Given as goal

abbrev pub invariant-loop-key : goal.invariant-loop-key
invariant-loop-key l =
    ((text : List ℕ) → AreExplained l.evidence l.rest text → AreExplained l.evidence l.verdicts.entries (l.out.items ++ text))
    × AllByRecursion (λ (v : List ℕ × Verdict). IsVerdictWithin l.evidence (Some v.0) v.1) l.rest
    × (l.witnesses ≡ l.evidence.events)

abbrev pub decreases-loop-key : goal.decreases-loop-key
decreases-loop-key l = length l.rest
