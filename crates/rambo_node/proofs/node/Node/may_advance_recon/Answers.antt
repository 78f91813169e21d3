use Rattle.rambo_node.proofs.node.Node.may_advance_recon.Goals as goal

pub is_early-requires : goal.is_early-requires
is_early-requires g c = assumption

pub is_stopped-requires : goal.is_stopped-requires
is_stopped-requires g c = assumption

pub is_waiting-requires : goal.is_waiting-requires
is_waiting-requires g c = assumption
