use Rattle.rambo_node.proofs.node.Node.outline_for.Goals as goal

pub gossip_outline-requires : goal.gossip_outline-requires
gossip_outline-requires g c = assumption
