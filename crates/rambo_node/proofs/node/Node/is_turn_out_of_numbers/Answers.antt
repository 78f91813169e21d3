use Rattle.rambo_node.proofs.node.Node.is_turn_out_of_numbers.Goals as goal

pub collection_turn-requires : goal.collection_turn-requires
collection_turn-requires g c = c.requires-raw.1.1
