use Rattle.std.proofs.Common.{get_or, ap, ◌∙◌, arith}
use Rattle.rambo_text.specs.declared.numbers.TheConstants.{NUMBERS}
use Rattle.rambo_text.proofs.DigitNumbers.{NUMBERS_at, NUMBERS_of}
use Rattle.rambo_text.proofs.numbers.number_of.Goals as goal

pub returns-then-number-lt16-clause-found : goal.returns-then-number-lt16-clause-found
returns-then-number-lt16-clause-found c = (c.if-number-lt16.true, NUMBERS_at c.args.digit (omega arith) c.if-number-lt16.true)

pub returns-else-number-lt16-clause-none : goal.returns-else-number-lt16-clause-none
returns-else-number-lt16-clause-none c n h is =
    let high = c.if-number-lt16.false in
    let there = ap (λ b. get_or NUMBERS b 0) is ∙ NUMBERS_of n h in
    omega (arith, high, there, h)
