-- What a check of a text gives
use Rattle.std.specs.Prelude.{◌≡◌, ◌++◌, ◌&&◌, ℕ, Bool, true, false, List, Option, IfSome}
use Rattle.rambo_atomic.specs.declared.verdict.Verdict.{Verdict}
use Rattle.rambo_text.specs.declared.version.Version.{Version}
use Rattle.rambo_check.specs.EvidenceStates.{EvidenceState}
use Rattle.rambo_check.specs.Reasons.{AreExplained, IsExplainedOnAll}
use Rattle.rambo_check.specs.Texts.{IsToldIn}
use Rattle.rambo_check.specs.Verdicts.{AreVerdicts, IsVerdictOnAll, all_yes, yes_to_all, verdicts_text, order_verdict_text}

-- the bytes that a source had left, where they are known, are this text
abbrev pub IsLeft : Option (List ℕ) → List ℕ → Type 0
IsLeft left text = IfSome left (λ bytes. text ≡ bytes)

-- the lines are one for each key's verdict, and one for that on all keys, where there is one; where it is asked for, behind
-- each no is one that tells why
abbrev pub IsWritten : Bool → EvidenceState → List (List ℕ × Verdict) → Option Verdict → List ℕ → Type 0
IsWritten false s verdicts on_all written = written ≡ verdicts_text verdicts ++ order_verdict_text on_all
IsWritten true s verdicts on_all written =
    (text : List ℕ) × (last : List ℕ) × AreExplained s verdicts text × IsExplainedOnAll s on_all last × (written ≡ text ++ last)

-- the verdicts on what was told are written, in version 2 also that on all keys, and the answer is whether each is yes
pub record IsJudged (why : Bool) (version : Version) (s : EvidenceState) (written : List ℕ) (all : Bool) : Type 0 where
  pub verdicts : List (List ℕ × Verdict)
  pub right : AreVerdicts s verdicts
  pub on_all : Option Verdict
  pub right_on_all : IsVerdictOnAll version s on_all
  pub lines : IsWritten why s verdicts on_all written
  pub answer : all ≡ (all_yes verdicts && yes_to_all on_all)

-- the text gives an evidence, and this is how it was judged, and told why where that is asked for
abbrev pub IsChecked : Bool → List ℕ → List ℕ → Bool → Type 0
IsChecked why text written all = (version : Version) × (s : EvidenceState) × IsToldIn version text s × IsJudged why version s written all
