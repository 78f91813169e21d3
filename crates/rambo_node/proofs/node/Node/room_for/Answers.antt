use Rattle.rambo_names.proofs.Sizes.{up_fits, back_fits, next}
use Rattle.rambo_node.proofs.node.Node.room_for.Goals as goal

pub make_room-requires : goal.make_room-requires
make_room-requires g c = (back_fits _ _ _ (next _ _ _ _ (up_fits _ _ _ c.requires-raw.1.1.0)), c.requires-raw.1.1.1)
