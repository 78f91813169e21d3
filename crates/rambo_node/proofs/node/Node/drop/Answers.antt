use Rattle.rambo_names.proofs.Sizes.{up_fits, back_fits, next}
use Rattle.rambo_node.proofs.node.Node.drop.Goals as goal

pub drop-calls-requires : goal.drop-calls-requires
drop-calls-requires g c = back_fits _ _ _ (next _ _ _ _ (up_fits _ _ _ c.requires-raw.1.1))
