-- When copies last changed
use Rattle.std.specs.Prelude.{◌≡◌, ◌≢◌, ℕ, ◌≤◌, ◌<◌, nat_le, false, if◌then◌else◌, List, [], ◌∷◌, Option, None, Some}
use Rattle.std.specs.Ordering.{nat_cmp}
use Rattle.std.specs.Cmp.Lexicographic.{slice_cmp}
use Rattle.std.specs.FinMap.{FinMap, code, insert, get, entries}
use Rattle.std.specs.Coded.{Coded, coded_list, coded_ℕ}
use Rattle.rambo_tag.specs.declared.version.Version.{Version}
use Rattle.rambo_tag.specs.Tags.{is_newer}
use Rattle.rambo_tag.specs.Copies.{Copies, joined}

-- of each key that is held, the number under which its copy last changed
abbrev pub Stamps : Type 0
Stamps = FinMap (slice_cmp nat_cmp) ℕ

-- how proofs compare two such maps
abbrev pub stamps_code : Coded Stamps
stamps_code = code (coded_list coded_ℕ) coded_ℕ

-- copies that are held, their stamps, and for how many more changes there is room
pub record HeldCopies : Type 0 where
  pub copies : Copies
  pub stamps : Stamps
  pub spare : ℕ

abbrev pub stamp_or_zero : Option ℕ → ℕ
stamp_or_zero None = 0
stamp_or_zero (Some n) = n

-- the stamp of a key, 0 where it has none
abbrev pub stamp_at : Stamps → List ℕ → ℕ
stamp_at s key = stamp_or_zero (get s key)

-- no stamp is above this number
abbrev pub AreAtMost : ℕ → Stamps → Type 0
AreAtMost now s = (key : List ℕ) → stamp_at s key ≤ now

-- those of these copies that are newer than what is held are stamped with a number
abbrev pub stamped : ℕ → Copies → Stamps → List (List ℕ × Version) → Stamps
stamped now held s [] = s
stamped now held s (e ∷ es) = stamped now held (if is_newer (get held e.0) e.1 then insert s e.0 now else s) es

-- after what is sent was merged into what is held
unfoldable pub stamps_merged : ℕ → Copies → Stamps → Copies → Stamps
stamps_merged now held s sent = stamped now held s (entries sent)

-- merged into what is held, both are stamped alike
abbrev pub AreStampedAlike : Copies → Copies → Copies → Type 0
AreStampedAlike held a b = (now : ℕ) (s : Stamps) → stamps_merged now held s a ≡ stamps_merged now held s b

-- these are the copies with a stamp of at least a base
abbrev pub IsSince : Copies → Stamps → ℕ → Copies → Type 0
IsSince held s base p = (key : List ℕ) → get p key ≡ (if nat_le base (stamp_at s key) then get held key else None)

-- a node that holds at least each copy with a lesser stamp makes of these what it makes of all
abbrev pub SinceIsEnough : Type 0
SinceIsEnough =
    (held p r : Copies) (s : Stamps) (base : ℕ) → IsSince held s base p
    → ((key : List ℕ) (v : Version) → get held key ≡ Some v → stamp_at s key < base → is_newer (get r key) v ≡ false) → joined r p ≡ joined r held

-- the copies since 0 are all copies
abbrev pub AllSinceZero : Type 0
AllSinceZero = (held p : Copies) (s : Stamps) → IsSince held s 0 p → p ≡ held

-- what changed has the number as its stamp, and what didn't has the stamp that it had
pub record IsStamped (now : ℕ) (held new : Copies) (s t : Stamps) : Type 0 where
  pub changed : (key : List ℕ) → get new key ≢ get held key → get t key ≡ Some now
  pub same : (key : List ℕ) → get new key ≡ get held key → get t key ≡ get s key

-- what a merge changes is stamped, and nothing else
abbrev pub MergesAreStamped : Type 0
MergesAreStamped = (now : ℕ) (held sent : Copies) (s : Stamps) → IsStamped now held (joined held sent) s (stamps_merged now held s sent)

-- a copy of the one is of the other too, and what it lacks is no newer than what is held
pub record IsShort (short whole held : Copies) : Type 0 where
  pub part : (key : List ℕ) (v : Version) → get short key ≡ Some v → get whole key ≡ Some v
  pub held_anyway : (key : List ℕ) (v : Version) → get short key ≡ None → get whole key ≡ Some v → is_newer (get held key) v ≡ false

-- such copies are merged alike, and stamped alike
abbrev pub ShortIsAlike : Type 0
ShortIsAlike =
    (now : ℕ) (short whole held : Copies) (s : Stamps) → IsShort short whole held
    → (joined held short ≡ joined held whole) × (stamps_merged now held s short ≡ stamps_merged now held s whole)
