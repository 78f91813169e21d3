use Rattle.std.proofs.lemmas.Grind.{common_steps}
use Rattle.std.proofs.Common.{arith}
use Rattle.rambo_gossip.proofs.rambo_gossip++standing++Standing+Destruct.drop.Goals as goal

pub drop-requires : goal.drop-requires
drop-requires g c = grind (arith, common_steps)
