-- The sequence that a run gives for each key
use Rattle.std.specs.Prelude.{ℕ, zero, suc, Bool, true, false, if◌then◌else◌, nat_lt, List, [], ◌∷◌, map}
use Rattle.std.specs.Str.{bytes_eq}
use Rattle.rambo_tag.specs.Tags.{tag_lt, tag_of, bytes_lt}
use Rattle.rambo_history.specs.declared.event.CallId.{CallId}
use Rattle.rambo_history.specs.declared.event.Event.{Event}
use Rattle.rambo_history.specs.declared.event.Event.TheVariants as event
use Rattle.rambo_history.specs.Calls.{key_of, is_get, same_call}
use Rattle.rambo_sequence.specs.declared.mark.Mark.{Mark}

-- a key, and the order of its calls
pub record SequenceOf : Type 0 where
  pub key : List ℕ
  pub calls : List CallId

-- the place of a call in a history, or its length where it isn't there
abbrev pub call_place : CallId → List Event → ℕ
call_place c [] = zero
call_place c (event.Call d op ∷ es) = if same_call d c then zero else suc (call_place c es)
call_place c (event.Answer d a ∷ es) = suc (call_place c es)

-- under one tag a set comes before gets, and gets are ordered by the places of their calls
abbrev pub rank : List Event → Mark → ℕ
rank h m = if is_get m.op then suc (call_place m.id h) else zero

-- by tag, then by rank
abbrev pub mark_lt : List Event → Mark → Mark → Bool
mark_lt h a b =
    if tag_lt (tag_of a.kept) (tag_of b.kept) then true
    else if tag_lt (tag_of b.kept) (tag_of a.kept) then false
    else nat_lt (rank h a) (rank h b)

abbrev pub with_mark : List Event → Mark → List Mark → List Mark
with_mark h m [] = m ∷ []
with_mark h m (a ∷ ms) = if mark_lt h m a then m ∷ a ∷ ms else a ∷ with_mark h m ms

-- the marks of a key in order
abbrev pub sorted_marks : List Event → List ℕ → List Mark → List Mark
sorted_marks h key [] = []
sorted_marks h key (m ∷ ms) = if bytes_eq (key_of m.op) key then with_mark h m (sorted_marks h key ms) else sorted_marks h key ms

-- the given sequence of a key
unfoldable pub sequence_of : List Event → List Mark → List ℕ → List CallId
sequence_of h marks key = map (λ m. m.id) (sorted_marks h key marks)

abbrev pub with_key : List ℕ → List (List ℕ) → List (List ℕ)
with_key key [] = key ∷ []
with_key key (k ∷ ks) = if bytes_eq key k then k ∷ ks else if bytes_lt key k then key ∷ k ∷ ks else k ∷ with_key key ks

-- the keys that are marked, each once, in byte order
abbrev pub keys_of : List Mark → List (List ℕ)
keys_of [] = []
keys_of (m ∷ ms) = with_key (key_of m.op) (keys_of ms)

-- the given sequences of all keys that have one
unfoldable pub sequences_of : List Event → List Mark → List SequenceOf
sequences_of h marks = map (λ key. record { key = key; calls = sequence_of h marks key }) (keys_of marks)

-- the sequence of a key among these: a key that isn't there has the empty one
abbrev pub sequence_in : List SequenceOf → List ℕ → List CallId
sequence_in [] key = []
sequence_in (s ∷ ss) key = if bytes_eq s.key key then s.calls else sequence_in ss key
