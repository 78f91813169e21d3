use Rattle.std.proofs.Common.{arith}
use Rattle.rambo_text.proofs.Decimals.{HEX_PAIRS_at}
use Rattle.rambo_text.proofs.digits.pair_of.Goals as goal

pub returns : goal.returns
returns c = HEX_PAIRS_at c.args.byte (omega arith)
