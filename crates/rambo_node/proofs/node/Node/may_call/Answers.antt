use Rattle.rambo_node.proofs.node.Node.may_call.Goals as goal

pub is_early-requires : goal.is_early-requires
is_early-requires g c = assumption

pub is_full-requires : goal.is_full-requires
is_full-requires g c = assumption

pub is_last-requires : goal.is_last-requires
is_last-requires g c = assumption

pub is_last-requires-2 : goal.is_last-requires-2
is_last-requires-2 g c = assumption

pub is_stopped-requires : goal.is_stopped-requires
is_stopped-requires g c = assumption

pub key_is_long-requires : goal.key_is_long-requires
key_is_long-requires g c = assumption

pub value_is_long-requires : goal.value_is_long-requires
value_is_long-requires g c = assumption
