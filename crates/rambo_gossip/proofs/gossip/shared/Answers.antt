use Rattle.std.proofs.lemmas.Grind.{common_steps}
use Rattle.std.proofs.Common.{arith}
use Rattle.rambo_gossip.proofs.gossip.shared.Goals as goal

pub of-requires : goal.of-requires
of-requires g c = assumption

pub is_told_by-requires : goal.is_told_by-requires
is_told_by-requires g c = assumption

pub returns-then-is_told_by-clause-same : goal.returns-then-is_told_by-clause-same
returns-then-is_told_by-clause-same g c = grind (arith, common_steps)

pub returns-clause-same : goal.returns-clause-same
returns-clause-same g c = grind (arith, common_steps)
