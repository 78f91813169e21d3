-- One order of the calls of all keys
use Rattle.std.specs.Str.{bytes_eq}
use Rattle.std.specs.Prelude.{◌≡◌, ◌⊎◌, ℕ, ◌≤◌, List, [], ◌∷◌, ◌++◌, Bool, true, false, if◌then◌else◌, None, Some}
use Rattle.rambo_history.specs.declared.event.CallId.{CallId}
use Rattle.rambo_history.specs.declared.event.Event.{Event}
use Rattle.rambo_history.specs.declared.event.Event.TheVariants as event
use Rattle.rambo_history.specs.Calls.{same_call}
use Rattle.rambo_history.specs.Histories.{answered_at}
use Rattle.rambo_history.specs.Proper.{Stands, IsProper, IsProperForAll}
use Rattle.rambo_history.specs.Forms.{IsWellFormed}
use Rattle.rambo_sequence.specs.Sequences.{SequenceOf, sequence_in}

-- a call is left in what remains of the sequences
abbrev pub IsLeft : List SequenceOf → CallId → Type 0
IsLeft ss c = (s : SequenceOf) × Stands ss s × Stands s.calls c

-- of all calls that are left this one was answered first
pub record IsFirstAnswered (h : List Event) (ss : List SequenceOf) (m : CallId) : Type 0 where
  pub place : ℕ
  pub answered : answered_at h m ≡ Some place
  pub first : (d : CallId) (p : ℕ) → IsLeft ss d → answered_at h d ≡ Some p → place ≤ p

-- no call that is left was answered, and the sequences before this one are over
pub record IsRest (h : List Event) (ss front : List SequenceOf) : Type 0 where
  pub unanswered : (d : CallId) → IsLeft ss d → answered_at h d ≡ None
  pub over : (t : SequenceOf) → Stands front t → t.calls ≡ []

-- the front of this sequence is next: it holds the call, of all that are left, that was answered first. Where none was
-- answered, it is the first sequence that isn't over
abbrev pub GoesNext : List Event → List SequenceOf → List SequenceOf → SequenceOf → Type 0
GoesNext h ss front s = ((m : CallId) × Stands s.calls m × IsFirstAnswered h ss m) ⊎ IsRest h ss front

-- one order of the calls of all sequences, which come in the byte order of their keys
abbrev pub IsOrder : List Event → List SequenceOf → List CallId → Type 0
IsOrder h ss [] = (t : SequenceOf) → Stands ss t → t.calls ≡ []
IsOrder h ss (c ∷ cs) =
    (front : List SequenceOf) × (s : SequenceOf) × (back : List SequenceOf) × (rest : List CallId)
    × (ss ≡ front ++ s ∷ back) × (s.calls ≡ c ∷ rest) × GoesNext h ss front s
    × IsOrder h (front ++ record s { calls = rest } ∷ back) cs

-- no two sequences are of one key
abbrev pub AreApart : List SequenceOf → Type 0
AreApart [] = Unit {0}
AreApart (s ∷ ss) = ((t : SequenceOf) → Stands ss t → bytes_eq s.key t.key ≡ false) × AreApart ss

-- whether a call is in a list
abbrev pub has : CallId → List CallId → Bool
has d [] = false
has d (c ∷ cs) = if same_call c d then true else has d cs

-- a list up to a call, and what comes after it
abbrev pub through : CallId → List CallId → List CallId
through d [] = []
through d (c ∷ cs) = c ∷ (if same_call c d then [] else through d cs)

abbrev pub behind : CallId → List CallId → List CallId
behind d [] = []
behind d (c ∷ cs) = if same_call c d then cs else behind d cs

-- of the sequence that has a call, all up to it; and what is left then
abbrev pub given_through : CallId → List SequenceOf → List CallId
given_through d [] = []
given_through d (s ∷ ss) = if has d s.calls then through d s.calls else given_through d ss

abbrev pub left_behind : CallId → List SequenceOf → List SequenceOf
left_behind d [] = []
left_behind d (s ∷ ss) = if has d s.calls then record s { calls = behind d s.calls } ∷ ss else s ∷ left_behind d ss

-- the calls of all keys, keys in byte order
abbrev pub all_calls : List SequenceOf → List CallId
all_calls [] = []
all_calls (s ∷ ss) = s.calls ++ all_calls ss

-- goes through the answers: each gives its key's sequence up to its call, unless that was given; then the rest
unfoldable pub order_from : List SequenceOf → List Event → List CallId
order_from ss [] = all_calls ss
order_from ss (event.Call d op ∷ es) = order_from ss es
order_from ss (event.Answer d a ∷ es) = given_through d ss ++ order_from (left_behind d ss) es

unfoldable pub order_of : List Event → List SequenceOf → List CallId
order_of h ss = order_from ss h

-- no call occurs twice, in one sequence or in two
abbrev pub NoTwice : List CallId → Type 0
NoTwice [] = Unit {0}
NoTwice (c ∷ cs) = (Stands cs c → ⊥) × NoTwice cs

-- the given order is one, and no other list is
abbrev pub GivenIsOrder : Type 0
GivenIsOrder = (h : List Event) (ss : List SequenceOf) → NoTwice (all_calls ss) → IsOrder h ss (order_of h ss)

abbrev pub OneOrder : Type 0
OneOrder = (h : List Event) (ss : List SequenceOf) (order : List CallId) → NoTwice (all_calls ss) → IsOrder h ss order → order ≡ order_of h ss

-- where the sequence of each key is proper, the order is proper for all keys
abbrev pub OrderIsProper : Type 0
OrderIsProper =
    (h : List Event) (ss : List SequenceOf) (order : List CallId) → IsWellFormed h → AreApart ss → ((key : List ℕ) → IsProper h key (sequence_in ss key))
    → IsOrder h ss order → IsProperForAll h order
