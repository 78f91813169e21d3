use Rattle.std.proofs.lemmas.Grind.{common_steps}
use Rattle.std.proofs.Common.{arith}
use Rattle.rambo_bids.proofs.places.is_next.Goals as goal

pub top_of-top-requires : goal.top_of-top-requires
top_of-top-requires g c = grind (arith, common_steps)

pub overflow_sub-result : goal.overflow_sub-result
overflow_sub-result g c = grind (arith, common_steps)

pub returns-then-top-place : goal.returns-then-top-place
returns-then-top-place g c = grind (arith, common_steps)

pub returns-else-top-place : goal.returns-else-top-place
returns-else-top-place g c = grind (arith, common_steps)
