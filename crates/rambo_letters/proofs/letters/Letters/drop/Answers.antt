use Rattle.rambo_names.proofs.Sizes.{up_fits, back_fits, variant_fits}
use Rattle.rambo_letters.proofs.letters.Letters.drop.Goals as goal

pub drop-standings-requires-room-T-Destruct : goal.drop-standings-requires-room-T-Destruct
drop-standings-requires-room-T-Destruct g c κs = λ _. variant_fits _ _ _ _ (back_fits _ _ _ (up_fits _ _ _ c.requires-raw.1))
