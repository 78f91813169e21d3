use Rattle.std.proofs.Common.{◌≡◌, [], ◌<◌, ◌^◌, ℕ, decimal, length, IfNone, ap, subst, sym, ◌∙◌, append-nil, arith}
use Rattle.std.proofs.lemmas.Bool.Decides.{nat_tests}
use Rattle.rambo_names.proofs.Leading.{nothing_behind}
use Rattle.rambo_names.proofs.signs.read_num.Goals as goal

pub returns-in_err-number-clause-none : goal.returns-in_err-number-clause-none
returns-in_err-number-clause-none c =
    subst (λ o. IfNone o ((n : ℕ) → n < 2 ^ 64 → c.args.bytes.now ≡ decimal n → ⊥)) (sym c.from_residual.ensures)
    (λ n h is. c.in_err-number.ensures.none n [] h (record { whole = is ∙ sym (append-nil (decimal n)); ends = tt }))

pub returns-else-is_empty-clause-none : goal.returns-else-is_empty-clause-none
returns-else-is_empty-clause-none c n h is =
    let found = c.in_ok-number.ensures.found in
    let none : length c.in_ok-number.rest.now ≡ 0 = ap length (nothing_behind n c.in_ok-number.number c.args.bytes.now c.in_ok-number.rest.now h found.0 found.1.whole found.1.ends is) in
    grind (arith, nat_tests, none, c.is_empty.ensures, c.if-is_empty.false)
