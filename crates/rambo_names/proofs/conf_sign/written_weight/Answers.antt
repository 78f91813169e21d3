use Rattle.std.proofs.Common.{◌≡◌, ◌++◌, ℕ, List, ◌<◌, ◌^◌, decimal, subst, sym, ◌∙◌, arith}
use Rattle.std.proofs.lemmas.Fmt.{digits_decimal, decimal_injective}
use Rattle.rambo_names.specs.Signs.{BeginsWith, IsEnd}
use Rattle.rambo_names.proofs.ConfTexts.{end_ends}
use Rattle.rambo_names.proofs.Leading.{same_end}
use Rattle.rambo_names.proofs.Numerals.{digits}
use Rattle.rambo_names.proofs.conf_sign.written_weight.Goals as goal
use Rattle.rambo_names.proofs.conf_sign.written_weight.Goals.{else-weight-ge2-via-then-weight-ge2+then-weight-le15+else-ends, else-weight-ge2-via-then-weight-ge2+else-weight-le15, else-weight-ge2-via-else-weight-ge2}

-- the digits at the front are those of the weight
number_is : (line : List ℕ) (n m : ℕ) (rest r : List ℕ) → n < 2 ^ 64 → m < 2 ^ 64 → BeginsWith line (decimal n) rest → IsEnd r → line ≡ decimal m ++ r → (n ≡ m) × (rest ≡ r)
number_is line n m rest r h k begins end is =
    let cut = same_end (decimal n) (decimal m) rest r (digits_decimal digits n h) (digits_decimal digits m k) begins.ends (end_ends r end) (sym begins.whole ∙ is) in
    (decimal_injective n m h k cut.0, cut.1)

pub returns-else-weight-ge2-clause-none : goal.returns-else-weight-ge2-clause-none
returns-else-weight-ge2-clause-none c w r low high end e =
    let found = c.in_ok-weight.ensures.found in
    let same = number_is c.args.digits.now c.in_ok-weight.weight w c.in_ok-weight.rest.now r found.0 (omega arith) found.1 end e in
    let is = same.0 in
    elim c.else-weight-ge2.branch [
      | else-weight-ge2-via-then-weight-ge2+then-weight-le15+else-ends v ↦ v.if-ends.ensures (subst IsEnd (sym same.1) end)
      | else-weight-ge2-via-then-weight-ge2+else-weight-le15 v ↦ omega (arith, is, high, v.if-weight-le15.false)
      | else-weight-ge2-via-else-weight-ge2 v ↦ omega (arith, is, low, v.if-weight-ge2.false)
    ]
