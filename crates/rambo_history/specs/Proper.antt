-- Which orders of calls explain what a history says of one key, and of all (Herlihy and Wing, "Linearizability", TOPLAS 1990)
use Rattle.std.specs.Prelude.{◌≡◌, ℕ, List, ◌∷◌, ◌++◌, true, if◌then◌else◌, Option, None, Some, IsSome, fold}
use Rattle.std.specs.Option.{IsSomeAnd}
use Rattle.std.specs.Str.{bytes_eq}
use Rattle.rambo_history.specs.declared.operation.Op.{Op}
use Rattle.rambo_history.specs.declared.operation.Op.TheVariants as op
use Rattle.rambo_history.specs.declared.event.CallId.{CallId}
use Rattle.rambo_history.specs.declared.event.Event.{Event}
use Rattle.rambo_history.specs.Calls.{key_of, is_get, answer_for}
use Rattle.rambo_history.specs.Histories.{call_in, answer_in, answered_before}

-- P holds of each item, with what comes before it and what after it
abbrev pub EverySplit : {X : Type 0} → (List X → X → List X → Type 0) → List X → Type 0
EverySplit {X} P xs = (front : List X) (x : X) (back : List X) → xs ≡ front ++ x ∷ back → P front x back

abbrev pub Stands : {X : Type 0} → List X → X → Type 0
Stands {X} xs x = (front : List X) × (back : List X) × (xs ≡ front ++ x ∷ back)

-- the history has this call of the key
abbrev pub IsCallOf : List Event → List ℕ → CallId → Type 0
IsCallOf h key c = IsSomeAnd (call_in h c) (λ op. key_of op ≡ key)

-- what an ordinary map holds at a key after one more operation
abbrev pub after_op : List ℕ → Option Op → Option (List ℕ) → Option (List ℕ)
after_op key None held = held
after_op key (Some (op.Get k)) held = held
after_op key (Some (op.Set k value)) held = if bytes_eq k key then Some value else held

-- what an ordinary map, empty at first, holds at a key after the calls of a list
abbrev pub held_after : List Event → List ℕ → List CallId → Option (List ℕ)
held_after h key cs = fold (λ held c. after_op key (call_in h c) held) None cs

-- each answered call of the key is in the order
abbrev pub IsComplete : List Event → List ℕ → List CallId → Type 0
IsComplete h key order = (c : CallId) → IsCallOf h key c → IsSome (answer_in h c) → Stands order c

-- no call occurs twice
abbrev pub IsDistinct : List CallId → Type 0
IsDistinct order = EverySplit (λ front c back. ¬ (Stands back c)) order

-- each entry is a call of the key, and a get only if it was answered
abbrev pub HasNoStranger : List Event → List ℕ → List CallId → Type 0
HasNoStranger h key order =
    EverySplit (λ front c back. IsSomeAnd (call_in h c) (λ op. (key_of op ≡ key) × (is_get op ≡ true → IsSome (answer_in h c)))) order

-- each get answers what an ordinary map has at its place: the latest set of its key before it, or nil
abbrev pub AnswersLatest : List Event → List CallId → Type 0
AnswersLatest h order =
    EverySplit (λ front c back. (key : List ℕ) → call_in h c ≡ Some (op.Get key) → answer_in h c ≡ Some (answer_for (held_after h key front))) order

-- what was answered before a call was made doesn't come after it
abbrev pub KeepsRealTime : List Event → List CallId → Type 0
KeepsRealTime h order = EverySplit (λ front c back. (d : CallId) → Stands back d → ¬ (answered_before h d c ≡ true)) order

-- the order explains the history of the key
pub record IsProper (h : List Event) (key : List ℕ) (order : List CallId) : Type 0 where
  pub complete : IsComplete h key order
  pub distinct : IsDistinct order
  pub no_stranger : HasNoStranger h key order
  pub latest : AnswersLatest h order
  pub real_time : KeepsRealTime h order

-- each answered call is in the order
abbrev pub HasAllAnswered : List Event → List CallId → Type 0
HasAllAnswered h order = (c : CallId) → IsSome (answer_in h c) → Stands order c

-- each entry is a call, and a get only if it was answered
abbrev pub HasCallsAlone : List Event → List CallId → Type 0
HasCallsAlone h order = EverySplit (λ front c back. IsSomeAnd (call_in h c) (λ op. is_get op ≡ true → IsSome (answer_in h c))) order

-- the order explains the history of all keys
pub record IsProperForAll (h : List Event) (order : List CallId) : Type 0 where
  pub complete : HasAllAnswered h order
  pub distinct : IsDistinct order
  pub no_stranger : HasCallsAlone h order
  pub latest : AnswersLatest h order
  pub real_time : KeepsRealTime h order
