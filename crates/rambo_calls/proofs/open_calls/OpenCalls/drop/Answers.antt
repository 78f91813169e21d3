use Rattle.rambo_names.proofs.Sizes.{up_fits, back_fits, variant_fits}
use Rattle.rambo_calls.proofs.open_calls.OpenCalls.drop.Goals as goal

pub drop-list-requires-room-T-Destruct : goal.drop-list-requires-room-T-Destruct
drop-list-requires-room-T-Destruct g c κs = λ _. variant_fits _ _ _ _ (back_fits _ _ _ (up_fits _ _ _ c.requires-raw.1))
