use Rattle.std.proofs.Common.{◌≡◌, ◌<◌, ◌^◌, ℕ, List, decimal, length, take, IfNone, IfSome, subst, sym, ap, ◌∙◌, arith}
use Rattle.std.proofs.lemmas.List.{drop_all}
use Rattle.std.specs.Str.Parse.{AllDigits, digits_value}
use Rattle.rambo_names.specs.Signs.{BeginsWith, IsNumberEnd}
use Rattle.rambo_names.proofs.Numerals.{more_digits, more_value}
use Rattle.rambo_names.proofs.Leading.{too_many}
use Rattle.rambo_names.proofs.signs.leading_num.Goals as goal

pub returns-in_err-checked_mul-clause-none : goal.returns-in_err-checked_mul-clause-none
returns-in_err-checked_mul-clause-none c =
    let line = c.args.line.now in
    let i = c.loop-place.place in
    let digits = more_digits line i c.loop-place-test.true c.if-not-is_ascii_digit.ensures.bound c.loop-place.invariant.digits in
    subst (λ o. IfNone o ((n : ℕ) (rest : List ℕ) → n < 2 ^ 64 → ¬ (BeginsWith line (decimal n) rest))) (sym c.from_residual.ensures)
    (λ n rest h begins. let fits = too_many n line rest i h begins.ends begins.whole c.loop-place-test.true c.if-not-is_ascii_digit.ensures.cases digits in
    let value = c.loop-place.invariant.value in
    c.in_err-checked_mul.ensures (omega (arith, fits, value)))

pub returns-in_err-number-clause-none : goal.returns-in_err-number-clause-none
returns-in_err-number-clause-none c =
    let line = c.args.line.now in
    let i = c.loop-place.place in
    let digits = more_digits line i c.loop-place-test.true c.if-not-is_ascii_digit.ensures.bound c.loop-place.invariant.digits in
    subst (λ o. IfNone o ((n : ℕ) (rest : List ℕ) → n < 2 ^ 64 → ¬ (BeginsWith line (decimal n) rest))) (sym c.from_residual-in_err-number.ensures)
    (λ n rest h begins. let fits = too_many n line rest i h begins.ends begins.whole c.loop-place-test.true c.if-not-is_ascii_digit.ensures.cases digits in
    let value = c.loop-place.invariant.value in
    let tens = c.in_ok-checked_mul.ensures.1 in
    let digit = c.from.ensures in
    c.in_err-number.ensures (omega (arith, fits, value, tens, digit)))

pub loop-place-preserved : goal.loop-place-preserved
loop-place-preserved c =
    let line = c.args.line.now in
    let i = c.loop-place.place in
    let more = more_value line i c.loop-place-test.true c.if-not-is_ascii_digit.ensures.cases in
    let value = c.loop-place.invariant.value in
    let tens = c.in_ok-checked_mul.ensures.1 in
    let digit = c.from.ensures in
    let sum = c.in_ok-number.ensures in
    let sum_fits = sum.0 in
    let sum_is = sum.1 in
    record {
      digits = more_digits line i c.loop-place-test.true c.if-not-is_ascii_digit.ensures.bound c.loop-place.invariant.digits;
      value = omega (arith, more, value, tens, digit, sum_is);
      fits = omega (arith, sum_fits, sum_is);
    }

whole : (c : goal.After-loop-place) → c.loop-place.place ≡ length c.args.line.now
whole c = omega (arith, c.loop-place-test.false, c.loop-place.auto.place-end)

pub ended-requires-2-clause-digits : goal.ended-requires-2-clause-digits
ended-requires-2-clause-digits c = subst (λ n. AllDigits 10 (take n c.args.line.now)) (whole c) c.loop-place.invariant.digits

pub ended-requires-2-clause-value : goal.ended-requires-2-clause-value
ended-requires-2-clause-value c = c.loop-place.invariant.value ∙ ap (λ n. digits_value 10 (take n c.args.line.now)) (whole c)

pub returns-in_err-checked_mul-clause-found : goal.returns-in_err-checked_mul-clause-found
returns-in_err-checked_mul-clause-found c = subst (λ o. IfSome o (λ r. (r.0 < 2 ^ 64) × BeginsWith c.args.line.now (decimal r.0) r.1.now)) (sym c.from_residual.ensures) tt

pub returns-in_err-number-clause-found : goal.returns-in_err-number-clause-found
returns-in_err-number-clause-found c = subst (λ o. IfSome o (λ r. (r.0 < 2 ^ 64) × BeginsWith c.args.line.now (decimal r.0) r.1.now)) (sym c.from_residual-in_err-number.ensures) tt

pub overflow_sub-byte : goal.overflow_sub-byte
overflow_sub-byte c = c.if-not-is_ascii_digit.ensures.cases.0

pub ended-requires-2-clause-behind : goal.ended-requires-2-clause-behind
ended-requires-2-clause-behind c = subst IsNumberEnd (sym (drop_all (length c.args.line.now) c.args.line.now (omega arith))) tt
