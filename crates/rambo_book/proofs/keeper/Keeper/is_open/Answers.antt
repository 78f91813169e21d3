use Rattle.rambo_names.proofs.Sizes.{up_fits, back_fits, next, variant_fits}
use Rattle.rambo_book.proofs.keeper.Keeper.is_open.Goals as goal

pub status-status-requires : goal.status-status-requires
status-status-requires g c = back_fits _ _ _ (up_fits _ _ _ c.requires-raw.1.1.1)

pub calls-requires : goal.calls-requires
calls-requires g c =
    let node = back_fits _ _ _ (up_fits _ _ _ c.requires-raw.1.1.1) in
    let calls = back_fits _ _ _ (next _ _ _ _ (up_fits _ _ _ node)) in
    (node, variant_fits _ _ _ _ (back_fits _ _ _ (up_fits _ _ _ calls)))

pub may_quiet-requires : goal.may_quiet-requires
may_quiet-requires g c = back_fits _ _ _ (up_fits _ _ _ c.requires-raw.1.1.1)

pub may_quiet-requires-else-goes_on : goal.may_quiet-requires-else-goes_on
may_quiet-requires-else-goes_on g c = back_fits _ _ _ (up_fits _ _ _ c.requires-raw.1.1.1)
