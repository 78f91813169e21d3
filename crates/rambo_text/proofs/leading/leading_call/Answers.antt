use Rattle.std.proofs.Common.{decimal, ◌++◌, arith}
use Rattle.rambo_text.proofs.Fronts.{same_num, call_behind, number_behind}
use Rattle.rambo_text.proofs.Options.{at_none}
use Rattle.rambo_text.proofs.leading.leading_call.Goals as goal

pub returns-in_err-digits-clause-none : goal.returns-in_err-digits-clause-none
returns-in_err-digits-clause-none c =
    let found = c.in-Some.ensures.found in
    at_none c.from_residual.result
    (λ d rest is begins. c.in_err-digits.ensures.none (decimal d.number ++ rest) (call_behind _ _ _ d rest found.0 is found.1 begins))

pub returns-in_err-number-clause-none : goal.returns-in_err-number-clause-none
returns-in_err-number-clause-none c =
    let found = c.in-Some.ensures.found in
    at_none c.from_residual-in_err-number.result
    (λ d rest is begins. c.in_err-number.ensures.none d.number rest is.2
    (number_behind _ _ _ _ d rest found.0 is found.1 c.in_ok-digits.ensures.found begins))

pub returns-then-number-eq0-clause-none : goal.returns-then-number-eq0-clause-none
returns-then-number-eq0-clause-none c d rest is begins =
    let found = c.in-Some.ensures.found in
    let number = c.in_ok-number.ensures.found in
    let there = number_behind _ _ _ _ d rest found.0 is found.1 c.in_ok-digits.ensures.found begins in
    let same = (same_num c.in_ok-digits.digits.now c.in_ok-number.number d.number c.in_ok-number.rest.now rest number.0 is.2 number.1 there).0 in
    omega (arith, same, is.1, c.if-number-eq0.true)
