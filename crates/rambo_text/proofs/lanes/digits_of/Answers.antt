use Rattle.std.proofs.Common.{◌/◌, ◌%◌, ◌<◌, map, ap, ◌∙◌, subst, sym, arith}
use Rattle.std.proofs.lemmas.Simd.{Each1-from_get_or, Each1-weaker, Each1-all}
use lib.Lanes.{Each1}
use Rattle.rambo_text.specs.Signs.{digit_of}
use Rattle.rambo_text.specs.Lanes.{in_turn}
use Rattle.rambo_text.proofs.LaneByLane.{itself, splat, joined, same_lanes, each_map}
use Rattle.rambo_text.proofs.Halves.{Low, halves_turned}
use Rattle.rambo_text.proofs.lanes.digits_of.Goals as goal

small : (c : goal.After-row_known-2-1) → Each1 (λ b. b < 256) c.args.bytes.now
small c = Each1-from_get_or (λ b. b < 256) c.args.bytes.now 0 (λ i inside. c.fits-bytes i)

pub digits-highs-requires : goal.digits-highs-requires
digits-highs-requires c =
    let v = c.args.bytes.now in
    let small = Each1-from_get_or (λ b. b < 256) v 0 (λ i inside. c.fits-bytes i) in
    let is = joined _ _ _ v (itself v) (splat v 16 4 c.told-bytes) ∙ same_lanes _ (λ b. b / 16) 256 v tt small in
    subst Low (sym is) (each_map (λ n. n < 16) (λ b. b / 16) v (Each1-weaker (λ b. b < 256) (λ b. b / 16 < 16) (λ b low. omega (arith, low)) v small))

pub digits-lows-requires : goal.digits-lows-requires
digits-lows-requires c =
    let v = c.args.bytes.now in
    let small = Each1-from_get_or (λ b. b < 256) v 0 (λ i inside. c.fits-bytes i) in
    let is = joined _ _ _ v (itself v) (splat v 16 15 c.told-bytes) ∙ same_lanes _ (λ b. b % 16) 256 v tt small in
    subst Low (sym is) (each_map (λ n. n < 16) (λ b. b % 16) v (Each1-all (λ b. b % 16 < 16) (λ b. omega arith) v))

pub returns : goal.returns
returns c =
    let v = c.args.bytes.now in
    let small = Each1-from_get_or (λ b. b < 256) v 0 (λ i inside. c.fits-bytes i) in
    let highs = joined _ _ _ v (itself v) (splat v 16 4 c.told-bytes) ∙ same_lanes _ (λ b. b / 16) 256 v tt small in
    let lows = joined _ _ _ v (itself v) (splat v 16 15 c.told-bytes) ∙ same_lanes _ (λ b. b % 16) 256 v tt small in
    let hs = c.digits-highs.ensures ∙ ap (map digit_of) highs in
    let ls = c.digits-lows.ensures ∙ ap (map digit_of) lows in
    c.joined.ensures ∙ (λ i. in_turn (hs i) (ls i)) ∙ halves_turned v
