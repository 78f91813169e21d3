use Rattle.std.proofs.lemmas.Grind.{common_steps}
use Rattle.std.proofs.Common.{arith}
use Rattle.rambo_bids.proofs.places.top_of.Goals as goal

pub floor-requires : goal.floor-requires
floor-requires g c = grind (arith, common_steps)

pub places-requires : goal.places-requires
places-requires g c = grind (arith, common_steps)

pub len-requires : goal.len-requires
len-requires g c = grind (arith, common_steps)

pub overflow_sub-result : goal.overflow_sub-result
overflow_sub-result g c = grind (arith, common_steps)

pub overflow_add-result : goal.overflow_add-result
overflow_add-result g c = grind (arith, common_steps)

pub returns-clause-next : goal.returns-clause-next
returns-clause-next g c = grind (arith, common_steps)

pub returns-clause-active : goal.returns-clause-active
returns-clause-active g c = grind (arith, common_steps)
