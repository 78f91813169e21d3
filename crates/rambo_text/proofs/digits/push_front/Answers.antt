use Rattle.std.proofs.Common.{arith}
use Rattle.rambo_text.proofs.Decimals.{digits_behind, decimal-pair, length-pair}
use Rattle.rambo_text.proofs.digits.push_front.Goals as goal

pub push_first-requires-else-number-lt100-clause-room : goal.push_first-requires-else-number-lt100-clause-room
push_first-requires-else-number-lt100-clause-room c =
    let more = length-pair c.args.number c.if-number-lt100.false (omega arith) in omega (arith, more, c.requires.room)

pub push_pair-requires-clause-room : goal.push_pair-requires-clause-room
push_pair-requires-clause-room c =
    let more = length-pair c.args.number c.if-number-lt100.false (omega arith) in
    omega (arith, more, c.requires.room, c.push_first-else-number-lt100.ensures.len, c.push_first-else-number-lt100.ensures.capacity)

pub returns-else-number-lt100-clause-items : goal.returns-else-number-lt100-clause-items
returns-else-number-lt100-clause-items c =
    digits_behind _ _ _ _ _ c.push_first-else-number-lt100.ensures.items _ c.push_pair.ensures.items (decimal-pair c.args.number c.if-number-lt100.false (omega arith))

pub returns-else-number-lt100-clause-len : goal.returns-else-number-lt100-clause-len
returns-else-number-lt100-clause-len c =
    let more = length-pair c.args.number c.if-number-lt100.false (omega arith) in
    omega (arith, more, c.push_first-else-number-lt100.ensures.len, c.push_pair.ensures.len)
