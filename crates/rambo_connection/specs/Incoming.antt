-- What comes in
use Rattle.std.specs.Prelude.{◌≡◌, ℕ, Bool, true, false, List, [], ◌∷◌, ◌++◌, Option, option_to_list}
use Rattle.rambo_resp.specs.Streams.{faulty}
use Rattle.rambo_resp.specs.Decoders.{DecoderState, HasTaken, failed}
use Rattle.rambo_resp.specs.declared.fault.Fault.{Fault}
use Rattle.rambo_resp.specs.declared.fault.Fault.TheVariants.{OutOfMemory}
use Rattle.std.specs.Prelude.{◌⊎◌}

-- a decoder after its oldest command
abbrev pub behind : Option (List (List ℕ)) → DecoderState → DecoderState
behind ahead d = record d { waiting = option_to_list ahead ++ d.waiting }

-- a piece was read after what had been read, or memory ran out for it; after a fault no more is read
pub record Feeds (d : DecoderState) (piece : List ℕ) (e : DecoderState) : Type 0 where
  pub taken : ((stream : List ℕ) (given : ℕ) → HasTaken d stream given → HasTaken e (stream ++ piece) given) ⊎ (e ≡ failed d OutOfMemory)
  pub again : (fault : Fault) → d.ending ≡ faulty fault → e ≡ d

-- whether a whole command waits
abbrev pub is_some_command : List (List (List ℕ)) → Bool
is_some_command [] = false
is_some_command (c ∷ cs) = true

abbrev pub has_command : DecoderState → Bool
has_command d = is_some_command d.waiting
