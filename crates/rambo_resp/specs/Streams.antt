-- What a stream of bytes reads as: its commands, and how it ends
use Rattle.std.specs.Prelude.{◌≡◌, ℕ, ◌+◌, ◌-◌, ◌^◌, min, List, ◌++◌, length, Option}
use Rattle.std.specs.List.{flat_map, filter_map, AllByRecursion}
use Rattle.rambo_resp.specs.Spellings.{Spells}
use Rattle.rambo_resp.specs.Rests.{IsOpen, GoesWrong}
use Rattle.rambo_resp.specs.declared.fault.Fault.{Fault}

-- a spelling, and the command that it spells, if it spells one
pub record Part : Type 0 where
  pub text : List ℕ
  pub tells : Option (List (List ℕ))

abbrev pub IsPart : Part → Type 0
IsPart p = Spells p.text p.tells

abbrev pub text_of : Part → List ℕ
text_of p = p.text

abbrev pub command_of : Part → Option (List (List ℕ))
command_of p = p.tells

abbrev pub texts : List Part → List ℕ
texts parts = flat_map text_of parts

-- the commands of the parts, in order
abbrev pub commands_of : List Part → List (List (List ℕ))
commands_of parts = filter_map command_of parts

-- a place in a stream, as it is given: places from 2^64 - 1 on are given as this
abbrev pub place_of : ℕ → ℕ
place_of n = min n (2 ^ 64 - 1)

-- how a stream ends after its whole spellings: with a prefix of one, and the place of the next byte, or with a fault
pub data Ending : Type 0 where
  open_at : List ℕ → ℕ → Ending
  faulty : Fault → Ending

-- these bytes begin with no spelling
abbrev pub BeginsWithNone : List ℕ → Type 0
BeginsWithNone bytes = (p : Part) (more : List ℕ) → IsPart p → bytes ≡ p.text ++ more → ⊥

-- the rest after this many bytes ends so
abbrev pub EndsAs : ℕ → List ℕ → Ending → Type 0
EndsAs before rest (open_at bytes place) = IsOpen rest × (bytes ≡ rest) × (place ≡ place_of (before + length rest))
EndsAs before rest (faulty fault) = GoesWrong rest (λ n. place_of (before + n)) fault

-- a stream is spellings, and then a rest that begins with none
pub record Reads (stream : List ℕ) (commands : List (List (List ℕ))) (ending : Ending) : Type 0 where
  pub parts : List Part
  pub each : AllByRecursion IsPart parts
  pub rest : List ℕ
  pub split : stream ≡ texts parts ++ rest
  pub spelled_none : BeginsWithNone rest
  pub told : commands ≡ commands_of parts
  pub ends : EndsAs (length (texts parts)) rest ending
