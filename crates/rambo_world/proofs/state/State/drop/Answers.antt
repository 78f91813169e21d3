use Rattle.rambo_names.proofs.Sizes.{up_fits, back_fits, next}
use Rattle.rambo_world.proofs.state.State.drop.Goals as goal

pub drop-nodes-requires : goal.drop-nodes-requires
drop-nodes-requires g c = back_fits _ _ _ (next _ _ _ _ (next _ _ _ _ (next _ _ _ _ (up_fits _ _ _ c.requires-raw.1.1))))

pub drop-letters-requires : goal.drop-letters-requires
drop-letters-requires g c = back_fits _ _ _ (next _ _ _ _ (next _ _ _ _ (up_fits _ _ _ c.requires-raw.1.1)))
