use Rattle.rambo_node.proofs.node.Node.may_rebid.Goals as goal

pub is_bidding-requires : goal.is_bidding-requires
is_bidding-requires g c = assumption

pub is_early-requires : goal.is_early-requires
is_early-requires g c = assumption

pub is_last-requires : goal.is_last-requires
is_last-requires g c = assumption

pub is_stopped-requires : goal.is_stopped-requires
is_stopped-requires g c = assumption

pub round-requires : goal.round-requires
round-requires g c = assumption
