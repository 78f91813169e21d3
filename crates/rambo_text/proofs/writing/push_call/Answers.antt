use Rattle.std.proofs.Common.{arith}
use Rattle.std.proofs.lemmas.Fmt.{length-decimal-le}
use Rattle.rambo_text.proofs.writing.push_call.Goals as goal

pub push_num-requires : goal.push_num-requires
push_num-requires c =
    let short = length-decimal-le 2 c.number.result (omega arith) (omega (arith, c.number.ensures.range)) (omega (arith, c.number.ensures.range)) in
    omega (arith, short, c.requires)

pub push_reserved-requires : goal.push_reserved-requires
push_reserved-requires c =
    let short = length-decimal-le 2 c.number.result (omega arith) (omega (arith, c.number.ensures.range)) (omega (arith, c.number.ensures.range)) in
    omega (arith, short, c.requires, c.push_num.ensures.len, c.push_num.ensures.capacity)

pub push_num-requires-2 : goal.push_num-requires-2
push_num-requires-2 c =
    let short = length-decimal-le 2 c.number.result (omega arith) (omega (arith, c.number.ensures.range)) (omega (arith, c.number.ensures.range)) in
    let behind = length-decimal-le 20 c.args.id.now.number (omega arith) (omega arith) (omega arith) in
    omega (arith, short, behind, c.requires, c.push_num.ensures.len, c.push_num.ensures.capacity, c.push_reserved.ensures.len, c.push_reserved.ensures.capacity)

pub returns-clause-len : goal.returns-clause-len
returns-clause-len c =
    let short = length-decimal-le 2 c.number.result (omega arith) (omega (arith, c.number.ensures.range)) (omega (arith, c.number.ensures.range)) in
    let behind = length-decimal-le 20 c.args.id.now.number (omega arith) (omega arith) (omega arith) in
    omega (arith, short, behind, c.push_num.ensures.len, c.push_reserved.ensures.len, c.push_num-2.ensures.len)
