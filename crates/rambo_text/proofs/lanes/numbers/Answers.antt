use Rattle.std.proofs.Common.{◌∙◌}
use Rattle.std.proofs.lemmas.Simd.{below_from_Fits}
use Rattle.std.proofs.Common.{w8}
use Rattle.rambo_text.specs.Lanes.{number_or_255}
use Rattle.rambo_text.proofs.LaneByLane.{itself, splat, joined, tested, chosen, same_lanes}
use Rattle.rambo_text.proofs.lanes.numbers.Goals as goal

pub returns : goal.returns
returns c =
    let v = c.args.digits in
    let long = c.fits-digits.0 in
    let figures = joined _ _ _ v (itself v) (splat v 16 48 long) in
    let letters = joined _ _ _ v (itself v) (splat v 16 97 long) in
    chosen _ _ _ v (tested _ _ v (joined _ _ _ v figures (splat v 16 10 long))) figures
    (chosen _ _ _ v (tested _ _ v (joined _ _ _ v letters (splat v 16 6 long))) (joined _ _ _ v letters (splat v 16 10 long)) (splat v 16 255 long))
    ∙ same_lanes _ number_or_255 256 v tt (below_from_Fits w8 v c.fits-digits.1)
