use Rattle.rambo_names.proofs.Sizes.{up_fits, back_fits, next, variant_fits}
use Rattle.rambo_visit.proofs.advancing.number_at.Goals as goal

pub calls_of-requires : goal.calls_of-requires
calls_of-requires g c =
    let node = back_fits _ _ _ (up_fits _ _ _ c.requires-raw.1.1.1) in
    (c.requires-raw.1.1.1, variant_fits _ _ _ _ (back_fits _ _ _ (up_fits _ _ _ (back_fits _ _ _ (next _ _ _ _ (up_fits _ _ _ node))))))
