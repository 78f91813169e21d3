-- Sets that give their key a value for a second time
use Rattle.std.specs.Prelude.{◌≡◌, ℕ, List, ◌∷◌, ◌++◌, length, Bool, true, false, ◌&&◌, Option, None, Some}
use Rattle.std.specs.List.{list_any}
use Rattle.std.specs.Str.{bytes_eq}
use Rattle.rambo_history.specs.declared.operation.Op.TheVariants as op
use Rattle.rambo_history.specs.declared.event.Event.{Event}
use Rattle.rambo_history.specs.declared.event.Event.TheVariants as event
use Rattle.rambo_history.specs.Proper.{EverySplit}

-- whether an event is a set of the key to the value
abbrev pub sets_to : List ℕ → List ℕ → Event → Bool
sets_to key value (event.Call c (op.Set k v)) = bytes_eq k key && bytes_eq v value
sets_to key value (event.Call c (op.Get k)) = false
sets_to key value (event.Answer c a) = false

-- whether it is a set to a value that a set before it gave the key
abbrev pub is_repeated : List Event → Event → Bool
is_repeated front (event.Call c (op.Set k v)) = list_any (sets_to k v) front
is_repeated front (event.Call c (op.Get k)) = false
is_repeated front (event.Answer c a) = false

-- each set gives its key a value of its own
abbrev pub HasOwnValues : List Event → Type 0
HasOwnValues h = EverySplit (λ front e back. is_repeated front e ≡ false) h

-- the place of the first set that doesn't, or None where each does
abbrev pub IsFirstRepeated : List Event → Option ℕ → Type 0
IsFirstRepeated h None = HasOwnValues h
IsFirstRepeated h (Some place) =
    (front : List Event) × (e : Event) × (back : List Event) × (h ≡ front ++ e ∷ back) × (place ≡ length front) × (is_repeated front e ≡ true)
    × HasOwnValues front
