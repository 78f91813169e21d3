use Rattle.std.proofs.Common.{arith}
use Rattle.rambo_text.proofs.LaneByLane.{itself, splat, joined}
use Rattle.rambo_text.proofs.Halves.{put_together}
use Rattle.rambo_text.proofs.lanes.bytes.Goals as goal

pub returns : goal.returns
returns c =
    let hs = c.args.highs in
    rw (joined _ _ _ hs (itself hs) (splat hs 16 4 c.fits-highs.0)) (put_together _ _ (λ h l p q. omega arith) hs c.args.lows c.requires.highs c.requires.lows)
