-- What a client is served
use Rattle.std.specs.Prelude.{◌≡◌, ℕ, Bool, true, false, List, [], ◌++◌, Option, None, Some}
use Rattle.std.specs.Io.KnownBytes.{Appends, Consumes, IsAtEnd}
use Rattle.rambo_atomic.specs.Streams.{Begins}
use Rattle.rambo_names.specs.Weights.{Weights, members_of}
use Rattle.rambo_resp.specs.declared.fault.Fault.{Fault}
use Rattle.rambo_resp.specs.Decoders.{DecoderState}
use Rattle.rambo_resp.specs.Streams.{Ending, open_at, faulty, Reads}
use Rattle.rambo_client.specs.Maps.{no_values}
use Rattle.rambo_client.specs.Replies.{after_all, requests, replies, text_of}
use Rattle.rambo_client.specs.Calls.{lowest}
use Rattle.rambo_client.specs.Courses.{Course, HasDone, HasBegun}

-- the input is at its end, or what was read has a fault
abbrev pub IsOver : Ending → Option (List ℕ) → Type 0
IsOver (open_at bytes place) left = IsAtEnd left
IsOver (faulty fault) left = Unit {0}

-- these are the commands of what was read, which is over. What an ordinary map replies to each was written, and then
-- the reply to the fault, if there is one
pub record Serves (commands : List (List (List ℕ))) (left left_now taken taken_now : Option (List ℕ)) : Type 0 where
  pub stream : List ℕ
  pub ending : Ending
  pub read : Consumes left left_now stream
  pub reads : Reads stream commands ending
  pub over : IsOver ending left_now
  pub written : Appends taken taken_now (text_of commands ending)

-- these are the commands of what was read, and a prefix of the replies to them was written
pub record Stops (commands : List (List (List ℕ))) (left left_now taken taken_now : Option (List ℕ)) : Type 0 where
  pub stream : List ℕ
  pub ending : Ending
  pub read : Consumes left left_now stream
  pub reads : Reads stream commands ending
  pub written : Begins taken taken_now (text_of commands ending)

-- a client of the node of a name was served by the nodes of these founders, which took the steps that its commands ask
-- for, and no other
pub record ServesAt (name : ℕ) (founders : Weights) (left left_now taken taken_now : Option (List ℕ)) (took : Course → Type 0) : Type 0 where
  pub commands : List (List (List ℕ))
  pub serves : Serves commands left left_now taken taken_now
  pub calls : HasDone name founders (requests commands) took

-- or a prefix of this
pub record StopsAt (name : ℕ) (founders : Weights) (left left_now taken taken_now : Option (List ℕ)) (took : Course → Type 0) : Type 0 where
  pub commands : List (List (List ℕ))
  pub stops : Stops commands left left_now taken taken_now
  pub calls : HasBegun name founders (requests commands) took

-- the same of nodes of which nothing is known but their founders
abbrev pub Served : Weights → Option (List ℕ) → Option (List ℕ) → Option (List ℕ) → Option (List ℕ) → Type 0
Served founders left left_now taken taken_now = ServesAt (lowest (members_of founders)) founders left left_now taken taken_now (λ c. Unit {0})

abbrev pub Stopped : Weights → Option (List ℕ) → Option (List ℕ) → Option (List ℕ) → Option (List ℕ) → Type 0
Stopped founders left left_now taken taken_now = StopsAt (lowest (members_of founders)) founders left left_now taken taken_now (λ c. Unit {0})

-- the fault of a stream, if it has one
abbrev pub fault_in : Ending → Option Fault
fault_in (open_at bytes place) = None
fault_in (faulty fault) = Some fault

abbrev pub is_faulty : Ending → Bool
is_faulty (open_at bytes place) = false
is_faulty (faulty fault) = true

-- the decoder has read this stream, and all its commands were given and carried out
pub record IsTalk (name : ℕ) (founders : Weights) (d : DecoderState) (took : Course → Type 0) (stream : List ℕ) (commands : List (List (List ℕ))) : Type 0 where
  pub reads : Reads stream commands d.ending
  pub given : d.waiting ≡ []
  pub calls : HasDone name founders (requests commands) took

-- the same after one more piece, where these are the replies to what is new
pub record Answers (name : ℕ) (founders : Weights) (d : DecoderState) (took : Course → Type 0) (stream : List ℕ) (commands : List (List (List ℕ))) (new : List ℕ) : Type 0 where
  pub commands_now : List (List (List ℕ))
  pub talk : IsTalk name founders d took stream commands_now
  pub text : text_of commands_now d.ending ≡ replies no_values (requests commands) ++ new

-- the same where these replies were appended
abbrev pub AppendsAnswers : ℕ → Weights → DecoderState → (Course → Type 0) → List ℕ → List (List (List ℕ)) → List ℕ → List ℕ → Type 0
AppendsAnswers name founders d took stream commands out out_now =
    (new : List ℕ) × Answers name founders d took stream commands new × (out_now ≡ out ++ new)

-- the commands at the front of one more piece were carried out, and this is left of it. The replies to them were appended
pub record CarriesFront (name : ℕ) (founders : Weights) (d : DecoderState) (took : Course → Type 0) (stream : List ℕ) (commands : List (List (List ℕ))) (piece rest out out_now : List ℕ) : Type 0 where
  pub front : List ℕ
  pub new : List (List (List ℕ))
  pub split : piece ≡ front ++ rest
  pub talk : IsTalk name founders d took (stream ++ front) (commands ++ new)
  pub written : out_now ≡ out ++ replies (after_all no_values (requests commands)) (requests new)

-- one more piece was carried out in part
pub record BreaksOff (name : ℕ) (founders : Weights) (took : Course → Type 0) (stream : List ℕ) (commands : List (List (List ℕ))) : Type 0 where
  pub commands_now : List (List (List ℕ))
  pub ending : Ending
  pub reads : Reads stream commands_now ending
  pub calls : HasBegun name founders (requests commands_now) took
  pub new : List ℕ
  pub text : text_of commands_now ending ≡ replies no_values (requests commands) ++ new
