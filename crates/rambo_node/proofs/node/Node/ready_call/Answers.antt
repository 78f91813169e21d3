use Rattle.rambo_names.proofs.Sizes.{up_fits, back_fits, next}
use Rattle.rambo_node.proofs.node.Node.ready_call.Goals as goal

pub reserve-requires : goal.reserve-requires
reserve-requires g c = back_fits _ _ _ (next _ _ _ _ (up_fits _ _ _ c.requires-raw.1.1))
