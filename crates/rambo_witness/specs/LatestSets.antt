-- The latest set of each key among the calls of a front
use Rattle.std.specs.Prelude.{◌≡◌, ℕ, List, Option, None, Some}
use Rattle.std.specs.Map.{lookup}
use Rattle.std.specs.Option.{option_and_then}
use Rattle.std.specs.Str.{bytes_eq}
use Rattle.rambo_history.specs.declared.operation.Op.TheVariants as op
use Rattle.rambo_history.specs.declared.event.CallId.{CallId}
use Rattle.rambo_history.specs.declared.event.Event.{Event}
use Rattle.rambo_history.specs.Calls.{answer_for}
use Rattle.rambo_history.specs.Histories.{call_in, answer_in}
use Rattle.rambo_history.specs.Proper.{held_after}
use Rattle.rambo_atomic.specs.declared.verdict.Rule.TheVariants.{WrongAnswer}
use Rattle.rambo_witness.specs.declared.witness.Witness.{Witness}
use Rattle.rambo_witness.specs.Tests.{value_of}
use Rattle.rambo_witness.specs.Witnesses.{Breaks, IsLatestSet}

-- a call is the latest set of a key, and its value is what the key holds
pub record IsHeld (h : List Event) (front : List CallId) (key : List ℕ) (set : Option CallId) : Type 0 where
  pub latest : IsLatestSet h key front set
  pub value : held_after h key front ≡ option_and_then (λ c. value_of (call_in h c)) set

-- the entries have the latest set of each key
abbrev pub HasLatest : List Event → List CallId → List (List ℕ × CallId) → Type 0
HasLatest h front entries = (key : List ℕ) → IsHeld h front key (lookup (bytes_eq key) entries)

-- whether a call breaks the rule of answers behind a front: None where it doesn't
abbrev pub DecidesAnswer : List Event → List CallId → CallId → Option Witness → Type 0
DecidesAnswer h front c None = (key : List ℕ) → call_in h c ≡ Some (op.Get key) → answer_in h c ≡ Some (answer_for (held_after h key front))
DecidesAnswer h front c (Some w) = (w.call ≡ c) × ((key : Option (List ℕ)) → Breaks WrongAnswer h key front w)
