-- Decoders, and the streams that they have taken
use Rattle.std.specs.Prelude.{◌≡◌, ◌≢◌, ℕ, ◌≤◌, List, [], ◌∷◌, ◌++◌, length, drop, Option, Some, None, Result, Ok, Err}
use Rattle.rambo_resp.specs.Streams.{Ending, open_at, faulty, Reads}
use Rattle.rambo_resp.specs.declared.fault.Fault.{Fault}
use Rattle.rambo_resp.specs.declared.fault.Fault.TheVariants.{OutOfMemory}

-- the commands that are whole and weren't given yet, in order, and what follows them
pub record DecoderState : Type 0 where
  pub waiting : List (List (List ℕ))
  pub ending : Ending

-- a decoder that was fed this stream, and has given this many of its commands
pub record HasTaken (d : DecoderState) (stream : List ℕ) (given : ℕ) : Type 0 where
  pub commands : List (List (List ℕ))
  pub reads : Reads stream commands d.ending
  pub few : given ≤ length commands
  pub waiting : d.waiting ≡ drop given commands

-- the same decoder, which answers this fault for good
abbrev pub failed : DecoderState → Fault → DecoderState
failed d fault = record d { ending = faulty fault }

-- a decoder has taken the front of a piece that follows the stream, and this is left of it
pub record HasTakenFront (d : DecoderState) (stream piece rest : List ℕ) (given : ℕ) : Type 0 where
  pub front : List ℕ
  pub split : piece ≡ front ++ rest
  pub taken : HasTaken d (stream ++ front) given

-- a decoder has taken some of a piece, and then memory ran out
pub record HasFailedWithin (d : DecoderState) (stream piece : List ℕ) (given : ℕ) : Type 0 where
  pub before : DecoderState
  pub rest : List ℕ
  pub took : HasTakenFront before stream piece rest given
  pub fails : d ≡ failed before OutOfMemory

-- no command has begun
abbrev pub HasNoneBegun : Ending → Type 0
HasNoneBegun (open_at bytes place) = bytes ≡ []
HasNoneBegun (faulty fault) = Unit {0}

-- what a decoder answers to a piece that follows the stream. Nothing is wrong with what it has now; or it has the fault
-- that it answers; or memory ran out, and nothing of the piece was taken
abbrev pub Takes : DecoderState → List ℕ → ℕ → Result (Unit {0}) Fault → Type 0
Takes d stream given (Ok _) = HasTaken d stream given × ((fault : Fault) → d.ending ≢ faulty fault)
Takes d stream given (Err fault) = fault ≢ OutOfMemory → HasTaken d stream given × (d.ending ≡ faulty fault)

-- the oldest command, or how the stream ends
abbrev pub oldest_of : List (List (List ℕ)) → Ending → Result (Option (List (List ℕ))) Fault
oldest_of (c ∷ cs) ending = Ok (Some c)
oldest_of [] (open_at bytes place) = Ok None
oldest_of [] (faulty fault) = Err fault

abbrev pub oldest : DecoderState → Result (Option (List (List ℕ))) Fault
oldest d = oldest_of d.waiting d.ending

-- the decoder when its oldest command was given
abbrev pub without_oldest : DecoderState → DecoderState
without_oldest d = record d { waiting = drop 1 d.waiting }

-- how many commands an answer gives
abbrev pub given_by : Result (Option (List (List ℕ))) Fault → ℕ
given_by (Ok (Some c)) = 1
given_by (Ok None) = 0
given_by (Err fault) = 0
