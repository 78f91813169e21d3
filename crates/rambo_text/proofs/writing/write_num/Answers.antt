use Rattle.std.proofs.Common.{arith}
use Rattle.std.proofs.lemmas.Fmt.{length-decimal-le}
use Rattle.rambo_text.proofs.writing.write_num.Goals as goal

pub push_num-requires : goal.push_num-requires
push_num-requires c =
    let short = length-decimal-le 20 c.args.number (omega arith) (omega arith) (omega arith) in omega (arith, short, c.in_ok-reserve.ensures.ok)
