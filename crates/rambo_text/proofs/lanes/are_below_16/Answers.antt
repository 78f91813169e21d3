use Rattle.std.proofs.Common.{◌≡◌, ◌%◌, ◌^◌, ltb, length, map, replicate, cond, sym, ap, ◌∙◌, eqb-true, eq-eqb, arith, w8}
use Rattle.std.proofs.lemmas.Simd.{bitmask_splat, tops_compared, length-zip2, length-sel_l}
use lib.Lanes.{zip2, sel_l, mask_l, top}
use Rattle.rambo_text.proofs.LaneByLane.{ones, all_set, set_alone}
use Rattle.rambo_text.proofs.Halves.{greater_low, low_greater}
use Rattle.rambo_text.proofs.lanes.are_below_16.Goals as goal

pub returns : goal.returns
returns c =
    let hs = c.args.highs in
    let ls = c.args.lows in
    let greater = sel_l (zip2 ltb hs ls) ls hs in
    let same : length hs ≡ length ls = c.fits-highs.0 ∙ sym c.fits-lows.0 in
    let tests = length-zip2 ltb hs ls same in
    let long : length greater ≡ 16 = length-sel_l (zip2 ltb hs ls) ls hs (tests ∙ same) tests ∙ tests ∙ c.fits-highs.0 in
    let max = ap (λ ms. mask_l (map (top 7) (zip2 (λ a b. cond (ltb a b) 255 0) (sel_l ms ls hs) (replicate 16 16))) % 2 ^ 64) (tops_compared w8 ltb hs ls) in
    let mask = max ∙ bitmask_splat w8 ltb greater 16 16 long (omega arith) in (
      λ t. greater_low hs ls same (set_alone (λ x. ltb x 16) greater (sym mask ∙ eqb-true _ _ t ∙ ap ones (sym long))),
      λ h. eq-eqb _ _ (mask ∙ all_set (λ x. ltb x 16) greater (low_greater hs ls same h.0 h.1) ∙ ap ones long),
    )
