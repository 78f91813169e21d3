use Rattle.rambo_node.proofs.node.Node.may_advance_collect.Goals as goal

pub is_collection_waiting-requires : goal.is_collection_waiting-requires
is_collection_waiting-requires g c = assumption

pub is_early-requires : goal.is_early-requires
is_early-requires g c = assumption

pub is_stopped-requires : goal.is_stopped-requires
is_stopped-requires g c = assumption

pub is_turn_out_of_numbers-requires : goal.is_turn_out_of_numbers-requires
is_turn_out_of_numbers-requires g c = assumption
