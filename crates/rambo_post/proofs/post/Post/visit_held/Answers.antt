use Rattle.rambo_names.proofs.Sizes.{up_fits, back_fits, variant_fits}
use Rattle.rambo_post.proofs.post.Post.visit_held.Goals as goal

pub keeper_of-keeper-requires : goal.keeper_of-keeper-requires
keeper_of-keeper-requires g c = (c.requires-raw.1.1.1.1.1.1, back_fits _ _ _ (up_fits _ _ _ (back_fits _ _ _ (up_fits _ _ _ (variant_fits _ _ _ _ (back_fits _ _ _ (up_fits _ _ _ c.requires-raw.1.1.1.1.1.1)))))))

pub begin-begun-requires : goal.begin-begun-requires
begin-begun-requires g c = (c.requires-raw.1.1.1.1.1.1, back_fits _ _ _ (up_fits _ _ _ (back_fits _ _ _ (up_fits _ _ _ (variant_fits _ _ _ _ (back_fits _ _ _ (up_fits _ _ _ c.requires-raw.1.1.1.1.1.1)))))))

pub drop-keeper-requires-room-T-Destruct : goal.drop-keeper-requires-room-T-Destruct
drop-keeper-requires-room-T-Destruct g c κs within = back_fits _ _ _ (up_fits _ _ _ (back_fits _ _ _ (up_fits _ _ _ (variant_fits _ _ _ _ (back_fits _ _ _ (up_fits _ _ _ c.requires-raw.1.1.1.1.1.1))))))

pub visit_in-requires : goal.visit_in-requires
visit_in-requires g c = back_fits _ _ _ (up_fits _ _ _ (back_fits _ _ _ (up_fits _ _ _ (variant_fits _ _ _ _ (back_fits _ _ _ (up_fits _ _ _ c.requires-raw.1.1.1.1.1.1))))))

pub drop-keeper-requires-2-room-T-Destruct : goal.drop-keeper-requires-2-room-T-Destruct
drop-keeper-requires-2-room-T-Destruct g c κs within = back_fits _ _ _ (up_fits _ _ _ (back_fits _ _ _ (up_fits _ _ _ (variant_fits _ _ _ _ (back_fits _ _ _ (up_fits _ _ _ c.requires-raw.1.1.1.1.1.1))))))
