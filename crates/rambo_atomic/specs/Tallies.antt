-- How many answered calls of each key, and of all, a history has
use Rattle.std.specs.Prelude.{◌≡◌, ℕ, ◌+◌, List, [], ◌∷◌, Bool, true, false, ◌&&◌, Option, None, Some, is_some, unwrap_or, if◌then◌else◌}
use Rattle.std.specs.Borrow.{Bor}
use Rattle.std.specs.Map.{lookup}
use Rattle.std.specs.Str.{bytes_eq}
use Rattle.rambo_history.specs.declared.operation.Op.{Op}
use Rattle.rambo_history.specs.declared.event.CallId.{CallId}
use Rattle.rambo_history.specs.declared.event.Event.{Event}
use Rattle.rambo_history.specs.Histories.{call_in, answer_in}
use Rattle.rambo_atomic.specs.Tests.{of_key, is_due, has_entry}

-- how many items pass a test
abbrev pub how_many : {X : Type 0} → (X → Bool) → List X → ℕ
how_many p [] = 0
how_many p (x ∷ xs) = (if p x then 1 else 0) + how_many p xs

-- the count that a list of keys with counts has at a key, or 0
abbrev pub count_at : List (Bor (List ℕ) × ℕ) → List ℕ → ℕ
count_at entries key = unwrap_or (lookup (λ k. bytes_eq key k.now) entries) 0

-- that count, where some more are at one key
abbrev pub count_with : List (Bor (List ℕ) × ℕ) → List ℕ → ℕ → List ℕ → ℕ
count_with entries own more key = count_at entries key + (if bytes_eq own key then more else 0)

-- the entries have the number of answered calls of each key
abbrev pub IsTallied : List Event → List (Bor (List ℕ) × ℕ) → Type 0
IsTallied h entries = (key : List ℕ) → count_at entries key ≡ how_many (is_due h (of_key key)) h

-- the number of answered calls of all keys
abbrev pub all_due : List Event → ℕ
all_due h = how_many (is_due h (λ op. true)) h

-- whether an answered call of those within was made there and is in the order
abbrev pub is_found : List Event → (Op → Bool) → List CallId → Event → Bool
is_found h within order e = is_due h within e && has_entry order e

-- whether there is an operation, and it is one of those within
abbrev pub is_any_of : (Op → Bool) → Option Op → Bool
is_any_of within None = false
is_any_of within (Some op) = within op

-- whether a call is one of those within and was answered
abbrev pub is_answered_call : List Event → (Op → Bool) → CallId → Bool
is_answered_call h within c = is_any_of within (call_in h c) && is_some (answer_in h c)
