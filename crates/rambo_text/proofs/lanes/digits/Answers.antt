use Rattle.std.proofs.Common.{◌∙◌}
use Rattle.rambo_text.specs.Signs.{digit_of}
use Rattle.rambo_text.proofs.LaneByLane.{itself, splat, joined, tested, chosen, same_lanes}
use Rattle.rambo_text.proofs.lanes.digits.Goals as goal

pub returns : goal.returns
returns c =
    let v = c.args.numbers in
    let long = c.fits-numbers.0 in
    joined _ _ _ v (chosen _ _ _ v (tested _ _ v (joined _ _ _ v (itself v) (splat v 16 10 long))) (splat v 16 48 long) (splat v 16 87 long)) (itself v)
    ∙ same_lanes _ digit_of 16 v tt c.requires
