-- The answered calls of a key
use Rattle.std.specs.Prelude.{◌≡◌, ℕ, List, [], ◌∷◌, ◌++◌, ◌&&◌, Option, None, Some, is_some, if◌then◌else◌}
use Rattle.std.specs.Option.{option_map_or}
use Rattle.std.specs.Map.{lookup}
use Rattle.std.specs.Str.{bytes_eq}
use Rattle.std.specs.declared.vec.Vec.{Vec}
use Rattle.std.specs.declared.alloc.Global.{Global}
use Rattle.rambo_history.specs.declared.event.CallId.{CallId}
use Rattle.rambo_history.specs.declared.event.Event.{Event}
use Rattle.rambo_history.specs.declared.event.Event.TheVariants as event
use Rattle.rambo_history.specs.Histories.{answer_in}
use Rattle.rambo_history.specs.Proper.{Stands}
use Rattle.rambo_witness.specs.declared.witness.Witness.{Witness}
use Rattle.rambo_witness.specs.Tests.{is_of}

-- those of the key, or of all, that were made among these events and answered in the history, as they were made
abbrev pub dues_among : List Event → Option (List ℕ) → List Event → List CallId
dues_among h key [] = []
dues_among h key (event.Call c op ∷ es) = if is_of key op && is_some (answer_in h c) then c ∷ dues_among h key es else dues_among h key es
dues_among h key (event.Answer c a ∷ es) = dues_among h key es

-- the calls that a map has at a key
abbrev pub calls_at : List (List ℕ × Vec CallId Global) → List ℕ → List CallId
calls_at entries key = option_map_or (λ calls. calls.items) (lookup (bytes_eq key) entries) []

-- each key has its answered calls
abbrev pub HasDues : List Event → List (List ℕ × Vec CallId Global) → Type 0
HasDues h entries = (key : List ℕ) → calls_at entries key ≡ dues_among h (Some key) h

-- of some calls the first that doesn't stand in an order, or None where all do
abbrev pub IsFirstOut : List CallId → List CallId → Option Witness → Type 0
IsFirstOut calls order None = (c : CallId) → Stands calls c → Stands order c
IsFirstOut calls order (Some w) =
    (front : List CallId) × (back : List CallId) × (calls ≡ front ++ w.call ∷ back) × (¬ (Stands order w.call)) × (w.other ≡ None)
    × ((c : CallId) → Stands front c → Stands order c)
