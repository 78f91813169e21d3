use Rattle.rambo_names.proofs.Sizes.{up_fits, back_fits, next, variant_fits}
use Rattle.rambo_node.proofs.node.Node.may_restart.Goals as goal

pub is_early-requires : goal.is_early-requires
is_early-requires g c = assumption

pub is_last-requires : goal.is_last-requires
is_last-requires g c = assumption

pub place_of-requires : goal.place_of-requires
place_of-requires g c = assumption

pub call_at-requires : goal.call_at-requires
call_at-requires g c =
    let calls = back_fits _ _ _ (next _ _ _ _ (up_fits _ _ _ c.requires-raw.1.1)) in
    (c.requires-raw.1.1, variant_fits _ _ _ _ (back_fits _ _ _ (up_fits _ _ _ calls)))

pub is_missing-requires : goal.is_missing-requires
is_missing-requires g c = variant_fits _ _ _ _ (back_fits _ _ _ (up_fits _ _ _ (back_fits _ _ _ (next _ _ _ _ (up_fits _ _ _ c.requires-raw.1.1)))))

pub is_stopped-requires : goal.is_stopped-requires
is_stopped-requires g c = assumption
