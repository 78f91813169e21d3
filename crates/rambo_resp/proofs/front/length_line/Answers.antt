use Rattle.std.proofs.Common.{◌≡◌, ℕ, ◌+◌, ◌≤◌, ◌<◌, List, ◌++◌, ◌∷◌, length, get_or, IfNone, Some, None, ap, ◌∙◌, arith, inl, inr, rules}
use Rattle.std.proofs.lemmas.Bool.{cases_lt}
use Rattle.std.proofs.lemmas.List.{take_rest}
use Rattle.rambo_resp.specs.Spellings.{number_line}
use Rattle.rambo_resp.proofs.Items.{line_of_one, one_digit_line}
use Rattle.rambo_resp.proofs.front.length_line.Goals.{in_default-via-then-bytes-lt4, in_default-via-else-bytes-lt4+in-36+then-bytes-lt48, in_default-via-else-bytes-lt4+in-36+else-bytes-lt48+then-bytes-lt58+in-13+in_default-1, in_default-via-else-bytes-lt4+in-36+else-bytes-lt48+then-bytes-lt58+in_default-1, in_default-via-else-bytes-lt4+in-36+else-bytes-lt48+else-bytes-lt58, in_default-via-else-bytes-lt4+in_default-1}
use Rattle.rambo_resp.proofs.front.length_line.Goals as goal

pub returns-in-36-clause-spelled : goal.returns-in-36-clause-spelled
returns-in-36-clause-spelled c =
    let bytes = c.args.bytes.now in
    rw (take_rest bytes 4) (line_of_one 36 bytes c.from.result c.in-36.len_at_least (search rules) c.from.ensures (search rules) (search rules) (search rules) (search rules))

pub returns-in_default-clause-none : goal.returns-in_default-clause-none
returns-in_default-clause-none c =
    let bytes = c.args.bytes.now in
    let one_digit : (n : ℕ) (rest : List ℕ) → n < 10 → bytes ≡ number_line 36 n ++ rest → ⊥ = λ n rest low is.
    (let spelled : bytes ≡ 36 ∷ (48 + n) ∷ 13 ∷ 10 ∷ rest = is ∙ one_digit_line 36 n rest (omega (arith, low)) in
    let sign : get_or bytes 0 0 ≡ 36 = ap (λ b. get_or b 0 0) spelled in
    let digit : get_or bytes 1 0 ≡ 48 + n = ap (λ b. get_or b 1 0) spelled in
    let return : get_or bytes 2 0 ≡ 13 = ap (λ b. get_or b 2 0) spelled in
    let feed : get_or bytes 3 0 ≡ 10 = ap (λ b. get_or b 3 0) spelled in
    let long : 4 ≤ length bytes = omega (arith, ap length spelled) in
    elim c.in_default.branch as (λ _. ⊥) [
      | in_default-via-then-bytes-lt4 w ↦ search rules
      | in_default-via-else-bytes-lt4+in-36+then-bytes-lt48 w ↦ search rules
      | in_default-via-else-bytes-lt4+in-36+else-bytes-lt48+then-bytes-lt58+in-13+in_default-1 w ↦ search rules
      | in_default-via-else-bytes-lt4+in-36+else-bytes-lt48+then-bytes-lt58+in_default-1 w ↦ search rules
      | in_default-via-else-bytes-lt4+in-36+else-bytes-lt48+else-bytes-lt58 w ↦ search rules
      | in_default-via-else-bytes-lt4+in_default-1 w ↦ search rules
    ]) in
    elim c.two_digit_line.result as (λ r. IfNone r ((n : ℕ) (rest : List ℕ) → 10 ≤ n → n ≤ 99 → bytes ≡ number_line 36 n ++ rest → ⊥)
    → IfNone r ((n : ℕ) (rest : List ℕ) → n ≤ 99 → bytes ≡ number_line 36 n ++ rest → ⊥)) [
      | Some line ↦ λ h. h
      | None ↦ λ h n rest high is.
          elim (cases_lt n 10) as (λ _. ⊥) [
            | inl low ↦ one_digit n rest low is
            | inr low ↦ h n rest low high is
          ]
    ] c.two_digit_line.ensures.none
