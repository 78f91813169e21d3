use Rattle.std.proofs.lemmas.Grind.{elements}
use Rattle.std.proofs.Common.{arith}
use Rattle.rambo_history.proofs.call_list.CallList.answer.Goals as goal

pub part_none-self : goal.part_none-self
part_none-self c = assumption

pub returns : goal.returns
returns c = grind (arith, elements)
