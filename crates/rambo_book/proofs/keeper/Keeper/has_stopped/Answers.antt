use Rattle.rambo_names.proofs.Sizes.{up_fits, back_fits}
use Rattle.rambo_book.proofs.keeper.Keeper.has_stopped.Goals as goal

pub status-requires : goal.status-requires
status-requires g c = back_fits _ _ _ (up_fits _ _ _ c.requires-raw.1.1.1)
