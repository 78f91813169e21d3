use Rattle.std.proofs.lemmas.Grind.{elements}
use Rattle.std.proofs.Common.{arith}
use Rattle.rambo_history.proofs.history.op_at.Goals as goal

pub get-requires : goal.get-requires
get-requires c = assumption

pub returns-in_err-op : goal.returns-in_err-op
returns-in_err-op c = grind (arith, elements)

pub returns-in-Call : goal.returns-in-Call
returns-in-Call c = grind (arith, elements)

pub returns-in-Answer : goal.returns-in-Answer
returns-in-Answer c = grind (arith, elements)
