use Rattle.std.proofs.Common.{arith}
use Rattle.rambo_text.proofs.Decimals.{digits_behind, decimal-four, length-four}
use Rattle.rambo_text.proofs.digits.+push_num.Goals as goal

pub push_num-requires : goal.push_num-requires
push_num-requires t c =
    let more = length-four c.args.number (omega arith) (omega arith) in (omega arith, omega (arith, more, c.requires))

pub push_four-requires-clause-room : goal.push_four-requires-clause-room
push_four-requires-clause-room t c =
    let more = length-four c.args.number (omega arith) (omega arith) in
    omega (arith, more, c.requires, c.push_num.ensures.len, c.push_num.ensures.capacity)

pub returns-else-number-lt100000000-clause-items : goal.returns-else-number-lt100000000-clause-items
returns-else-number-lt100000000-clause-items t c =
    digits_behind _ _ _ _ _ c.push_num.ensures.items _ c.push_four.ensures.items (decimal-four c.args.number (omega arith) (omega arith))

pub returns-else-number-lt100000000-clause-len : goal.returns-else-number-lt100000000-clause-len
returns-else-number-lt100000000-clause-len t c =
    let more = length-four c.args.number (omega arith) (omega arith) in
    omega (arith, more, c.push_num.ensures.len, c.push_four.ensures.len)
