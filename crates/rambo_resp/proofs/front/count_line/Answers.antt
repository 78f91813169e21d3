use Rattle.std.proofs.Common.{◌≡◌, ◌+◌, ◌≤◌, ◌∷◌, length, get_or, ap, ◌∙◌, arith, rules}
use Rattle.std.proofs.lemmas.List.{take_rest}
use Rattle.rambo_resp.proofs.Items.{line_of_one, one_digit_line}
use Rattle.rambo_resp.proofs.front.count_line.Goals.{in_default-via-then-bytes-lt4, in_default-via-else-bytes-lt4+in-42+then-bytes-lt49, in_default-via-else-bytes-lt4+in-42+else-bytes-lt49+then-bytes-lt58+in-13+in_default-1, in_default-via-else-bytes-lt4+in-42+else-bytes-lt49+then-bytes-lt58+in_default-1, in_default-via-else-bytes-lt4+in-42+else-bytes-lt49+else-bytes-lt58, in_default-via-else-bytes-lt4+in_default-1}
use Rattle.rambo_resp.proofs.front.count_line.Goals as goal

pub returns-in-42-clause-spelled : goal.returns-in-42-clause-spelled
returns-in-42-clause-spelled c =
    let bytes = c.args.bytes.now in
    let low : 49 ≤ get_or bytes 1 0 = search rules in
    rw (take_rest bytes 4) (line_of_one 42 bytes c.from.result c.in-42.len_at_least (search rules) c.from.ensures (omega (arith, low)) (search rules) (search rules) (search rules))

pub returns-in_default-clause-none : goal.returns-in_default-clause-none
returns-in_default-clause-none c = λ n rest low high is.
    let bytes = c.args.bytes.now in
    let spelled : bytes ≡ 42 ∷ (48 + n) ∷ 13 ∷ 10 ∷ rest = is ∙ one_digit_line 42 n rest high in
    let first : get_or bytes 0 0 ≡ 42 = ap (λ b. get_or b 0 0) spelled in
    let second : get_or bytes 1 0 ≡ 48 + n = ap (λ b. get_or b 1 0) spelled in
    let third : get_or bytes 2 0 ≡ 13 = ap (λ b. get_or b 2 0) spelled in
    let fourth : get_or bytes 3 0 ≡ 10 = ap (λ b. get_or b 3 0) spelled in
    let long : 4 ≤ length bytes = omega (arith, ap length spelled) in
    elim c.in_default.branch [
      | in_default-via-then-bytes-lt4 w ↦ search rules
      | in_default-via-else-bytes-lt4+in-42+then-bytes-lt49 w ↦ search rules
      | in_default-via-else-bytes-lt4+in-42+else-bytes-lt49+then-bytes-lt58+in-13+in_default-1 w ↦ search rules
      | in_default-via-else-bytes-lt4+in-42+else-bytes-lt49+then-bytes-lt58+in_default-1 w ↦ search rules
      | in_default-via-else-bytes-lt4+in-42+else-bytes-lt49+else-bytes-lt58 w ↦ search rules
      | in_default-via-else-bytes-lt4+in_default-1 w ↦ search rules
    ]
