use Rattle.std.proofs.Common.{arith}
use Rattle.rambo_text.proofs.Decimals.{digits_behind, decimal-four, length-four}
use Rattle.rambo_text.proofs.digits.push_short.Goals as goal

pub push_front-requires-else-number-lt10000-clause-room : goal.push_front-requires-else-number-lt10000-clause-room
push_front-requires-else-number-lt10000-clause-room c =
    let more = length-four c.args.number c.if-number-lt10000.false (omega arith) in omega (arith, more, c.requires.room)

pub push_four-requires-clause-room : goal.push_four-requires-clause-room
push_four-requires-clause-room c =
    let more = length-four c.args.number c.if-number-lt10000.false (omega arith) in
    omega (arith, more, c.requires.room, c.push_front-else-number-lt10000.ensures.len, c.push_front-else-number-lt10000.ensures.capacity)

pub returns-else-number-lt10000-clause-items : goal.returns-else-number-lt10000-clause-items
returns-else-number-lt10000-clause-items c =
    digits_behind _ _ _ _ _ c.push_front-else-number-lt10000.ensures.items _ c.push_four.ensures.items (decimal-four c.args.number c.if-number-lt10000.false (omega arith))

pub returns-else-number-lt10000-clause-len : goal.returns-else-number-lt10000-clause-len
returns-else-number-lt10000-clause-len c =
    let more = length-four c.args.number c.if-number-lt10000.false (omega arith) in
    omega (arith, more, c.push_front-else-number-lt10000.ensures.len, c.push_four.ensures.len)
