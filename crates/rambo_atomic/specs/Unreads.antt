-- What was read of a source and isn't used yet
use Rattle.std.specs.Prelude.{◌≡◌, ◌≢◌, ◌⊎◌, ℕ, ◌+◌, ◌*◌, ◌^◌, ◌≤◌, ◌<◌, length, slice_index, Bool, true, List, [], ◌∷◌, ◌++◌, Option}
use Rattle.std.specs.Io.KnownBytes.{Consumes, IsAtEnd}

-- the bytes that are held, and whether the source is known to have no more
pub record UnreadState : Type 0 where
  pub held : List ℕ
  pub ended : Bool

-- what is known of a source's end is so
abbrev pub KnowsEnd : UnreadState → Option (List ℕ) → Type 0
KnowsEnd u left = u.ended ≡ true → IsAtEnd left

-- what a source gave is held after what was held before
abbrev pub TakesIn : Option (List ℕ) → Option (List ℕ) → List ℕ → List ℕ → Type 0
TakesIn old new before after = (given : List ℕ) × Consumes old new given × (after ≡ before ++ given)

-- there is a line feed
abbrev pub HasFeed : List ℕ → Type 0
HasFeed bytes = (front : List ℕ) × (back : List ℕ) × (bytes ≡ front ++ 10 ∷ back)

-- there is no line feed at this place or after it
abbrev pub HasNoFeedFrom : ℕ → List ℕ → Type 0
HasNoFeedFrom place bytes = (k : ℕ) → place ≤ k → k < length bytes → slice_index bytes k ≢ 10

-- the bytes were read piece by piece, and before the last piece no line was held
abbrev pub EndsInPiece : List ℕ → Type 0
EndsInPiece held = (front : List ℕ) × (piece : List ℕ) × (held ≡ front ++ piece) × (¬ (HasFeed front)) × (length piece ≤ 2 ^ 16)

-- the first line is held whole: with its line feed, or up to the source's end
abbrev pub HoldsLine : UnreadState → Type 0
HoldsLine u = (u.held ≢ []) × (HasFeed u.held ⊎ (u.ended ≡ true))

-- all was read and used
abbrev pub IsDone : UnreadState → Type 0
IsDone u = (u.held ≡ []) × (u.ended ≡ true)

-- how much is left to do where each time at least one byte is used: this falls with each read and with each byte that
-- is used
abbrev pub work_left : ℕ → UnreadState → ℕ
work_left reads u = reads * 2 ^ 64 + length u.held
