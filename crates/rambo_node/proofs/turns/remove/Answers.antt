use Rattle.std.proofs.lemmas.Grind.{common_steps}
use Rattle.std.proofs.Common.{arith}
use Rattle.rambo_node.proofs.turns.remove.Goals as goal

pub floor-requires : goal.floor-requires
floor-requires g c = assumption

pub returns-then-place-floor : goal.returns-then-place-floor
returns-then-place-floor g c = grind (arith, common_steps)

pub remove_lowest-requires : goal.remove_lowest-requires
remove_lowest-requires g c = assumption

pub unreachable-requires : goal.unreachable-requires
unreachable-requires g c = grind (arith, common_steps)

pub returns : goal.returns
returns g c = grind (arith, common_steps)
