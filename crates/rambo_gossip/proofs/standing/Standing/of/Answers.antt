use Rattle.std.proofs.lemmas.Grind.{common_steps}
use Rattle.std.proofs.Common.{arith}
use Rattle.rambo_gossip.proofs.standing.Standing.of.Goals as goal

pub copy-requires : goal.copy-requires
copy-requires g c = grind (arith, common_steps)

pub returns : goal.returns
returns g c = grind (arith, common_steps)
