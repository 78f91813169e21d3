use Rattle.rambo_names.proofs.Sizes.{up_fits, back_fits}
use Rattle.rambo_book.proofs.keeper.Keeper.drop.Goals as goal

pub drop-node-requires : goal.drop-node-requires
drop-node-requires g c = back_fits _ _ _ (up_fits _ _ _ c.requires-raw.1.1.1)
