use Rattle.rambo_names.proofs.Sizes.{up_fits, back_fits}
use Rattle.rambo_node.proofs.node.Node.collection_turn.Goals as goal

pub would_advance-requires : goal.would_advance-requires
would_advance-requires g c = back_fits _ _ _ (up_fits _ _ _ c.requires-raw.1.1)
