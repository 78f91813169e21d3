use Rattle.std.proofs.Common.{◌++◌, sym, ap, ◌∙◌, arith}
use Rattle.std.proofs.lemmas.Fmt.{decimal_digit}
use Rattle.rambo_text.proofs.Decimals.{decimal-two, length-one, length-two}
use Rattle.rambo_text.proofs.digits.push_first.Goals as goal

pub push_reserved-requires : goal.push_reserved-requires
push_reserved-requires c = let one = length-one c.args.number c.if-number-lt10.true in omega (arith, one, c.requires.room)

pub push_pair-requires-clause-room : goal.push_pair-requires-clause-room
push_pair-requires-clause-room c = let two = length-two c.args.number c.if-number-lt10.false c.requires.low in omega (arith, two, c.requires.room)

pub returns-then-number-lt10-clause-items : goal.returns-then-number-lt10-clause-items
returns-then-number-lt10-clause-items c =
    c.push_reserved.ensures.items ∙ ap (λ ds. c.args.out.now.items ++ ds) (sym (decimal_digit c.args.number c.if-number-lt10.true))

pub returns-then-number-lt10-clause-len : goal.returns-then-number-lt10-clause-len
returns-then-number-lt10-clause-len c =
    let one = length-one c.args.number c.if-number-lt10.true in omega (arith, one, c.push_reserved.ensures.len)

pub returns-else-number-lt10-clause-items : goal.returns-else-number-lt10-clause-items
returns-else-number-lt10-clause-items c =
    c.push_pair.ensures.items ∙ ap (λ ds. c.args.out.now.items ++ ds) (sym (decimal-two c.args.number c.if-number-lt10.false c.requires.low))

pub returns-else-number-lt10-clause-len : goal.returns-else-number-lt10-clause-len
returns-else-number-lt10-clause-len c =
    let two = length-two c.args.number c.if-number-lt10.false c.requires.low in omega (arith, two, c.push_pair.ensures.len)
