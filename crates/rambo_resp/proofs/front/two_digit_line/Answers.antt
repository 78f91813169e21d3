use Rattle.std.proofs.Common.{◌≡◌, ◌+◌, ◌*◌, ◌/◌, ◌%◌, ◌≤◌, ◌∷◌, length, get_or, ap, ◌∙◌, arith, rules}
use Rattle.std.proofs.lemmas.List.{take_rest}
use Rattle.rambo_resp.proofs.Items.{line_of_two, two_digit_line}
use Rattle.rambo_resp.proofs.front.two_digit_line.Goals.{in_default-via-then-bytes-lt5, in_default-via-else-bytes-lt5+in-36+then-bytes-lt49, in_default-via-else-bytes-lt5+in-36+else-bytes-lt49+then-bytes-lt58+then-bytes-lt48, in_default-via-else-bytes-lt5+in-36+else-bytes-lt49+then-bytes-lt58+else-bytes-lt48+then-bytes-lt58-2+in-13+in_default-1, in_default-via-else-bytes-lt5+in-36+else-bytes-lt49+then-bytes-lt58+else-bytes-lt48+then-bytes-lt58-2+in_default-1, in_default-via-else-bytes-lt5+in-36+else-bytes-lt49+then-bytes-lt58+else-bytes-lt48+else-bytes-lt58-2, in_default-via-else-bytes-lt5+in-36+else-bytes-lt49+else-bytes-lt58, in_default-via-else-bytes-lt5+in_default-1}
use Rattle.rambo_resp.proofs.front.two_digit_line.Goals as goal

pub returns-in-36-clause-spelled : goal.returns-in-36-clause-spelled
returns-in-36-clause-spelled c =
    let bytes = c.args.bytes.now in
    rw (take_rest bytes 5)
    (line_of_two bytes (10 * c.from-tens.result + c.from.result) c.in-36.len_at_least (search rules) (omega (arith, c.from-tens.ensures, c.from.ensures)) (search rules) (search rules)
    (search rules) (search rules) (search rules) (search rules))

pub returns-in_default-clause-none : goal.returns-in_default-clause-none
returns-in_default-clause-none c = λ n rest low high is.
    let bytes = c.args.bytes.now in
    let spelled : bytes ≡ 36 ∷ (48 + n / 10) ∷ (48 + n % 10) ∷ 13 ∷ 10 ∷ rest = is ∙ two_digit_line 36 n rest low high in
    let sign : get_or bytes 0 0 ≡ 36 = ap (λ b. get_or b 0 0) spelled in
    let ten : get_or bytes 1 0 ≡ 48 + n / 10 = ap (λ b. get_or b 1 0) spelled in
    let one : get_or bytes 2 0 ≡ 48 + n % 10 = ap (λ b. get_or b 2 0) spelled in
    let return : get_or bytes 3 0 ≡ 13 = ap (λ b. get_or b 3 0) spelled in
    let feed : get_or bytes 4 0 ≡ 10 = ap (λ b. get_or b 4 0) spelled in
    let long : 5 ≤ length bytes = omega (arith, ap length spelled) in
    elim c.in_default.branch [
      | in_default-via-then-bytes-lt5 w ↦ search rules
      | in_default-via-else-bytes-lt5+in-36+then-bytes-lt49 w ↦ search rules
      | in_default-via-else-bytes-lt5+in-36+else-bytes-lt49+then-bytes-lt58+then-bytes-lt48 w ↦ search rules
      | in_default-via-else-bytes-lt5+in-36+else-bytes-lt49+then-bytes-lt58+else-bytes-lt48+then-bytes-lt58-2+in-13+in_default-1 w ↦ search rules
      | in_default-via-else-bytes-lt5+in-36+else-bytes-lt49+then-bytes-lt58+else-bytes-lt48+then-bytes-lt58-2+in_default-1 w ↦ search rules
      | in_default-via-else-bytes-lt5+in-36+else-bytes-lt49+then-bytes-lt58+else-bytes-lt48+else-bytes-lt58-2 w ↦ search rules
      | in_default-via-else-bytes-lt5+in-36+else-bytes-lt49+else-bytes-lt58 w ↦ search rules
      | in_default-via-else-bytes-lt5+in_default-1 w ↦ search rules
    ]
