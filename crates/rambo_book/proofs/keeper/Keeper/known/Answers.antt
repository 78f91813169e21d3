use Rattle.rambo_names.proofs.Sizes.{up_fits, back_fits}
use Rattle.rambo_book.proofs.keeper.Keeper.known.Goals as goal

pub may_send-requires : goal.may_send-requires
may_send-requires g c = back_fits _ _ _ (up_fits _ _ _ c.requires-raw.1.1.1)
