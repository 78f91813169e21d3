use Rattle.std.proofs.lemmas.Simd.{pick_l_whole}
use Rattle.std.proofs.Common.{refl, sym}
use Rattle.rambo_text.proofs.lanes.joined.Goals as goal

pub returns : goal.returns
returns c =
    let hs = sym (pick_l_whole 0 c.args.highs 16 c.fits-highs.0) in
    let ls = sym (pick_l_whole 0 c.args.lows 16 c.fits-lows.0) in
    rw (hs, ls) refl
