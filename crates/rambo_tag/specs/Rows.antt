-- A table of copies with stamps, and the log of its changes
use Rattle.std.specs.Prelude.{◌≡◌, ◌≢◌, ℕ, ◌*◌, ◌-◌, min, Bool, false, nat_eq, ◌≤◌, if◌then◌else◌, List, [], ◌∷◌, length, AllPairs, Option, Some, None, slice_get, position, Vec}
use Rattle.std.specs.FinMap.{empty, insert, get}
use Rattle.std.specs.List.{IsDistinct}
use Rattle.std.specs.Map.{lookup, keys_of}
use Rattle.std.specs.Str.{bytes_eq}
use Rattle.std.specs.declared.alloc.Global.{Global}
use Rattle.std.specs.Vec.{vec_len, vec_capacity}
use Rattle.indexmap.specs.IndexMap.{IndexMap, spare}
use Rattle.rambo_tag.specs.declared.slot.Slot.{Slot}
use Rattle.rambo_tag.specs.declared.slot.Row.{Row}
use Rattle.rambo_tag.specs.declared.keyed_version.KeyedVersion.{KeyedVersion}
use Rattle.rambo_tag.specs.Tags.{is_newer}
use Rattle.rambo_tag.specs.Copies.{Copies, with_newer}
use Rattle.rambo_tag.specs.Stamps.{Stamps}

-- keys, and what the table keeps of each
abbrev pub Slots : Type 0
Slots = List (List ℕ × Slot)

-- what the table keeps of a key
abbrev pub slot_in : Slots → List ℕ → Option Slot
slot_in t key = lookup (bytes_eq key) t

-- the place of a key in the table
abbrev pub place_in : Slots → List ℕ → Option ℕ
place_in t key = position (bytes_eq key) (keys_of t)

-- all copies in the table
unfoldable pub copies_of : Slots → Copies
copies_of [] = empty
copies_of (e ∷ t) = insert (copies_of t) e.0 e.1.version

-- and their stamps
unfoldable pub stamps_of : Slots → Stamps
stamps_of [] = empty
stamps_of (e ∷ t) = insert (stamps_of t) e.0 e.1.number

-- each row records a change of a key, each key's last change has a row, numbers don't fall, and no row occurs twice
pub record IsLogOf (t : Slots) (log : List Row) : Type 0 where
  pub each : (i : ℕ) (r : Row) → slice_get log i ≡ Some r → (e : List ℕ × Slot) × (slice_get t r.place ≡ Some e) × (r.number ≤ e.1.number)
  pub all : (p : ℕ) (e : List ℕ × Slot) → slice_get t p ≡ Some e → (i : ℕ) × (slice_get log i ≡ Some (record { place = p; number = e.1.number }))
  pub rising : (i j : ℕ) (a b : Row) → i ≤ j → slice_get log i ≡ Some a → slice_get log j ≡ Some b → a.number ≤ b.number
  pub once : AllPairs (λ a b. a ≢ b) log

-- the log is at most twice as long as the table
abbrev pub IsShortFor : Slots → List Row → Type 0
IsShortFor t log = length log ≤ 2 * length t

-- each key occurs once, and its changes are in a short log
pub record IsIndexed (t : Slots) (log : List Row) : Type 0 where
  pub distinct : IsDistinct bytes_eq (keys_of t)
  pub logged : IsLogOf t log
  pub short : IsShortFor t log

-- what the table keeps of a key changed under this number
abbrev pub told_at : ℕ → Option Slot → Bool
told_at now None = false
told_at now (Some s) = nat_eq s.number now

abbrev pub has_number : ℕ → Option (List ℕ × Slot) → Bool
has_number n None = false
has_number n (Some e) = nat_eq e.1.number n

-- the row records a key's last change
abbrev pub is_current : Slots → Row → Bool
is_current t r = has_number r.number (slice_get t r.place)

-- for how many more rows there is room
abbrev pub room_behind : Vec Row Global → ℕ
room_behind log = vec_capacity log - vec_len log

-- for how many more changes there is room, in the table and in the log
abbrev pub room_in : {S : Type 0} → IndexMap (List ℕ) Slot S → Vec Row Global → ℕ
room_in table log = min (spare table) (room_behind log)

-- the stamps after copies of a list came, one after the other
abbrev pub stamps_after : ℕ → Copies → Stamps → List KeyedVersion → Stamps
stamps_after now held s [] = s
stamps_after now held s (c ∷ cs) = stamps_after now (with_newer held c.key c.version) (if is_newer (get held c.key) c.version then insert s c.key now else s) cs
