-- What the tables of gets and of values have
use Rattle.std.specs.Prelude.{◌≡◌, ℕ, List, [], Bool, false, Option, None, Some}
use Rattle.std.specs.List.{list_any}
use Rattle.std.specs.Map.{lookup}
use Rattle.std.specs.Option.{option_map_or}
use Rattle.std.specs.Str.{bytes_eq}
use Rattle.std.specs.declared.vec.Vec.{Vec}
use Rattle.std.specs.declared.alloc.Global.{Global}
use Rattle.indexmap.specs.IndexSet.{IndexSet}
use Rattle.rambo_history.specs.declared.event.CallId.{CallId}
use Rattle.rambo_history.specs.declared.event.Event.{Event}
use Rattle.rambo_placing.specs.declared.readers.Readers.{Readers}
use Rattle.rambo_placing.specs.Placings.{gets_of}
use Rattle.rambo_placing.specs.Values.{sets_to}

-- the calls that a table has at some bytes
abbrev pub calls_at : List (List ℕ × Vec CallId Global) → List ℕ → List CallId
calls_at entries bytes = option_map_or (λ calls. calls.items) (lookup (bytes_eq bytes) entries) []

-- each key has its gets
abbrev pub HasGets : List Event → List (List ℕ × Vec CallId Global) → Type 0
HasGets h entries = (key : List ℕ) → calls_at entries key ≡ gets_of key h

-- the gets that were answered what a key holds
abbrev pub told_at : Readers → Option (List ℕ) → List CallId
told_at readers None = readers.nil.items
told_at readers (Some value) = calls_at readers.told.entries value

-- whether a table has a value at a key
abbrev pub is_written : {S : Type 0} → List (List ℕ × IndexSet (List ℕ) S) → List ℕ → List ℕ → Bool
is_written entries key value = option_map_or (λ values. list_any (bytes_eq value) values.keys) (lookup (bytes_eq key) entries) false

-- it has what was set among these events
abbrev pub HasValues : {S : Type 0} → List Event → List (List ℕ × IndexSet (List ℕ) S) → Type 0
HasValues h entries = (key value : List ℕ) → is_written entries key value ≡ list_any (sets_to key value) h
