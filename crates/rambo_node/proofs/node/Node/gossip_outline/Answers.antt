use Rattle.rambo_names.proofs.Sizes.{up_fits, back_fits}
use Rattle.std.proofs.lemmas.Grind.{common_steps}
use Rattle.std.proofs.Common.{arith}
use Rattle.rambo_node.proofs.node.Node.gossip_outline.Goals as goal

pub returns-then-not-is_active : goal.returns-then-not-is_active
returns-then-not-is_active g c = grind (arith, common_steps)

pub offer_of-requires : goal.offer_of-requires
offer_of-requires g c = back_fits _ _ _ (up_fits _ _ _ c.requires-raw.1.1)

pub returns : goal.returns
returns g c = grind (arith, common_steps)
