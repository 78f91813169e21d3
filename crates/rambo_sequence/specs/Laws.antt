-- What the given sequences are
use Rattle.std.specs.Prelude.{◌≡◌, ◌≢◌, ◌≤◌, ◌↔◌, ℕ, true, false, List, map, filter, All, AllPairs, Any, Contains, IsPermutation}
use Rattle.std.specs.Str.{bytes_eq}
use Rattle.rambo_tag.specs.Tags.{tag_lt, tag_of, bytes_lt}
use Rattle.rambo_history.specs.declared.event.CallId.{CallId}
use Rattle.rambo_history.specs.declared.event.Event.{Event}
use Rattle.rambo_history.specs.Calls.{key_of, is_get}
use Rattle.rambo_sequence.specs.declared.mark.Mark.{Mark}
use Rattle.rambo_sequence.specs.Sequences.{SequenceOf, call_place, sequence_of, sequences_of}

-- the marks of a key
abbrev pub marks_of : List ℕ → List Mark → List Mark
marks_of key marks = filter (λ m. bytes_eq (key_of m.op) key) marks

-- a mark may come before another: its tag isn't the greater; under one tag, sets come before gets, and gets are ordered
-- by the places of their calls
pub record MayPrecede (h : List Event) (a b : Mark) : Type 0 where
  pub by_tag : tag_lt (tag_of b.kept) (tag_of a.kept) ≡ false
  pub sets_first : tag_of a.kept ≡ tag_of b.kept → is_get a.op ≡ true → is_get b.op ≡ true
  pub by_place : tag_of a.kept ≡ tag_of b.kept → is_get a.op ≡ true → is_get b.op ≡ true → call_place a.id h ≤ call_place b.id h

-- these are the calls of the key's marks, of all and of each once, and each mark may come before those after it
pub record IsSequence (h : List Event) (marks : List Mark) (key : List ℕ) (calls : List CallId) : Type 0 where
  pub ordered : List Mark
  pub exact : IsPermutation (marks_of key marks) ordered
  pub in_order : AllPairs (MayPrecede h) ordered
  pub named : calls ≡ map (λ m. m.id) ordered

-- two marks of one tag aren't both sets, nor gets whose calls are at one place
pub record Differ (h : List Event) (a b : Mark) : Type 0 where
  pub one_set : tag_of a.kept ≡ tag_of b.kept → is_get a.op ≡ false → is_get b.op ≡ false → ⊥
  pub places : tag_of a.kept ≡ tag_of b.kept → is_get a.op ≡ true → is_get b.op ≡ true → call_place a.id h ≢ call_place b.id h

-- the given sequence of a key is one
abbrev pub GivenIsSequence : Type 0
GivenIsSequence = (h : List Event) (marks : List Mark) (key : List ℕ) → IsSequence h marks key (sequence_of h marks key)

-- and where no two marks of the key tie, no other list is
abbrev pub OneSequence : Type 0
OneSequence =
    (h : List Event) (marks : List Mark) (key : List ℕ) (calls : List CallId) → AllPairs (Differ h) (marks_of key marks) → IsSequence h marks key calls
    → calls ≡ sequence_of h marks key

-- the given sequences are those of the keys that are marked, each once, in byte order
pub record AreSequences (h : List Event) (marks : List Mark) (sequences : List SequenceOf) : Type 0 where
  pub rising : AllPairs (λ s t. bytes_lt s.key t.key ≡ true) sequences
  pub marked : (key : List ℕ) → Contains (map (λ s. s.key) sequences) key ↔ Any (λ m. key_of m.op ≡ key) marks
  pub each : All (λ s. s.calls ≡ sequence_of h marks s.key) sequences

abbrev pub GivenAreSequences : Type 0
GivenAreSequences = (h : List Event) (marks : List Mark) → AreSequences h marks (sequences_of h marks)

abbrev pub OneList : Type 0
OneList = (h : List Event) (marks : List Mark) (sequences : List SequenceOf) → AreSequences h marks sequences → sequences ≡ sequences_of h marks
