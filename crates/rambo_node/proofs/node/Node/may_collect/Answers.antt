use Rattle.rambo_names.proofs.Sizes.{up_fits, back_fits}
use Rattle.rambo_node.proofs.node.Node.may_collect.Goals as goal

pub is_single-requires : goal.is_single-requires
is_single-requires g c = back_fits _ _ _ (up_fits _ _ _ c.requires-raw.1.1)
