use Rattle.std.proofs.Common.{◌≡◌, ℕ, List, length}
use Rattle.rambo_resp.specs.Decoders.{HasTaken, HasTakenFront, HasNoneBegun}
use Rattle.rambo_resp.proofs.decoder.Decoder.feed_begun.Given as goal

abbrev pub invariant-loop-rest : goal.invariant-loop-rest
invariant-loop-rest l = record {
  taken : (stream : List ℕ) (given : ℕ) → HasTaken l.fn.self stream given → HasTakenFront l.self stream l.fn.piece l.rest given;
  none : HasNoneBegun l.fn.self.ending → l.self ≡ l.fn.self;
}

abbrev pub decreases-loop-rest : goal.decreases-loop-rest
decreases-loop-rest l = length l.rest
