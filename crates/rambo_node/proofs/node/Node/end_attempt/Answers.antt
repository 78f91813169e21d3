use Rattle.rambo_names.proofs.Sizes.{up_fits, back_fits}
use Rattle.rambo_node.proofs.node.Node.end_attempt.Goals as goal

pub active_at-config-requires : goal.active_at-config-requires
active_at-config-requires g c = back_fits _ _ _ (up_fits _ _ _ c.requires-raw.1.1)
