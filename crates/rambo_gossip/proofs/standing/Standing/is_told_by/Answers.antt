use Rattle.std.proofs.lemmas.Grind.{common_steps}
use Rattle.std.proofs.Common.{arith}
use Rattle.rambo_gossip.proofs.standing.Standing.is_told_by.Goals as goal

pub same-requires : goal.same-requires
same-requires g c = grind (arith, common_steps)

pub returns-then-is_vote : goal.returns-then-is_vote
returns-then-is_vote g c = grind (arith, common_steps)

pub returns-else-is_vote : goal.returns-else-is_vote
returns-else-is_vote g c = grind (arith, common_steps)
