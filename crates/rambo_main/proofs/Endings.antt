-- How a server ends, by what its words ask for
use Rattle.std.proofs.Common.{◌≡◌, ◌⊎◌, ℕ, Bool, true, false, sym, true≢false}
use Rattle.rambo_names.specs.Weights.{Weights}
use Rattle.rambo_telling.specs.Telling.{Stream}
use Rattle.rambo_serving.specs.declared.ending.Ending.{Ending}
use Rattle.rambo_main.specs.Servers.{GivesBy, Leaves, Traces, Unserved}

module _ (most : ℕ) (founders : Weights) (e : Ending) (write told : Stream) where
  -- an endless one with a trace
  pub traced : (endless untraced : Bool) → endless ≡ true → untraced ≡ false → Traces founders e write told ⊎ Unserved e write told
      → GivesBy endless untraced most founders e write told ⊎ Unserved e write told
  traced true false is also ended = ended
  traced true true is also ended = absurd (true≢false also)
  traced false untraced is also ended = absurd (true≢false (sym is))

  -- one that has an end
  pub bounded : (endless untraced : Bool) → endless ≡ false → Leaves most founders e write told ⊎ Unserved e write told
      → GivesBy endless untraced most founders e write told ⊎ Unserved e write told
  bounded false untraced is ended = ended
  bounded true untraced is ended = absurd (true≢false is)
