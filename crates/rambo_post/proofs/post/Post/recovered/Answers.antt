use Rattle.rambo_names.proofs.Sizes.{back_fits, up_fits, variant_fits}
use Rattle.rambo_post.proofs.post.Post.recovered.Goals as goal

pub drop-keepers-requires-room-T-Destruct : goal.drop-keepers-requires-room-T-Destruct
drop-keepers-requires-room-T-Destruct g c κs within = variant_fits _ _ _ _ (back_fits _ _ _ (up_fits _ _ _ (back_fits _ _ _ (up_fits _ _ _ (back_fits _ _ _ (up_fits _ _ _ c.requires-raw.1.1.1.0))))))

pub with_keepers-requires : goal.with_keepers-requires
with_keepers-requires g c = (
  variant_fits _ _ _ _ (back_fits _ _ _ (up_fits _ _ _ (back_fits _ _ _ (up_fits _ _ _ (back_fits _ _ _ (up_fits _ _ _ c.requires-raw.1.1.1.0)))))),
  (c.requires-raw.1.1.1.1, (c.into_parts-keepers.ensures.many, c.in_ok-outboxes.ensures.all)),
)
