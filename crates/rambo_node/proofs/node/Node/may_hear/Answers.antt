use Rattle.rambo_node.proofs.node.Node.may_hear.Goals as goal

pub is_idle-requires : goal.is_idle-requires
is_idle-requires g c = assumption

pub is_out_of_numbers-requires : goal.is_out_of_numbers-requires
is_out_of_numbers-requires g c = assumption

pub is_stopped-requires : goal.is_stopped-requires
is_stopped-requires g c = assumption
