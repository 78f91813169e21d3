use Rattle.rambo_node.proofs.node.Node.is_collection_waiting.Goals as goal

pub collection_turn-requires : goal.collection_turn-requires
collection_turn-requires g c = c.requires-raw.1.1
