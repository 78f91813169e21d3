use Rattle.rambo_names.proofs.Sizes.{up_fits, back_fits}
use Rattle.rambo_world.proofs.nodes.Nodes.drop.Goals as goal

pub drop-spare-requires : goal.drop-spare-requires
drop-spare-requires g c = back_fits _ _ _ (up_fits _ _ _ c.requires-raw.1.1)

pub drop-list-requires-room-T-Destruct : goal.drop-list-requires-room-T-Destruct
drop-list-requires-room-T-Destruct g c κs within = back_fits _ _ _ (up_fits _ _ _ c.requires-raw.1.1)
