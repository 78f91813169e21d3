use Rattle.rambo_names.proofs.Sizes.{up_fits, back_fits, next, variant_fits}
use Rattle.rambo_visit.proofs.noting.is_open.Goals as goal

pub calls_of-call-items-requires : goal.calls_of-call-items-requires
calls_of-call-items-requires g c =
    let node = back_fits _ _ _ (up_fits _ _ _ c.requires-raw.1.1.1) in
    (c.requires-raw.1.1.1, variant_fits _ _ _ _ (back_fits _ _ _ (up_fits _ _ _ (back_fits _ _ _ (next _ _ _ _ (up_fits _ _ _ node))))))
