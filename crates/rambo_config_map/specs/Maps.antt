-- Configuration maps (Lynch and Shvartsman, "RAMBO", DISC 2002)
use Rattle.std.specs.Prelude.{ℕ, ◌+◌, ◌-◌, ◌^◌, max, pred, nat_le, nat_lt, if◌then◌else◌, Option, None, Some, Result, Ok, Err, List, [], ◌∷◌, ◌++◌, length, drop, slice_get}
use Rattle.rambo_names.specs.declared.refusal.Refusal.{Refusal}
use Rattle.rambo_names.specs.declared.refusal.Refusal.TheVariants as refusal
use Rattle.rambo_config_map.specs.declared.entry.Entry.{Entry}
use Rattle.rambo_config_map.specs.declared.entry.Entry.TheVariants as entry

-- which places are removed, active and unknown: those below the floor are removed, the active ones from the floor
-- on have these configurations, and all above them are unknown
pub record MapState (Q : Type 0) : Type 0 where
  pub floor : ℕ
  pub configs : List Q

-- the first unknown place
abbrev pub end_of : {Q : Type 0} → MapState Q → ℕ
end_of m = m.floor + length m.configs

-- the last active place
abbrev pub top_of : {Q : Type 0} → MapState Q → ℕ
top_of m = pred (end_of m)

-- the configuration that is active at a place
abbrev pub active_at : {Q : Type 0} → MapState Q → ℕ → Option Q
active_at m p = if nat_lt p m.floor then None else slice_get m.configs (p - m.floor)

abbrev pub entry_of : {Q : Type 0} → Option Q → Entry Q
entry_of None = entry.Unknown
entry_of (Some q) = entry.Active q

-- what a map has at a place
abbrev pub entry_at : {Q : Type 0} → MapState Q → ℕ → Entry Q
entry_at m p = if nat_lt p m.floor then entry.Removed else entry_of (slice_get m.configs (p - m.floor))

-- the map of a configuration at place 0
abbrev pub first_map : {Q : Type 0} → Q → MapState Q
first_map q = record { floor = 0; configs = q ∷ [] }

-- what is left of the first above both floors, then what the second has beyond it. So each place has the greater entry
-- of unknown, active and removed, and the first one's where both are active
abbrev pub merged_map : {Q : Type 0} → MapState Q → MapState Q → MapState Q
merged_map a b =
    let floor = max a.floor b.floor in
    let left = drop (floor - a.floor) a.configs in
    record { floor = floor; configs = left ++ drop (floor - b.floor + length left) b.configs }

-- with a configuration at the first unknown place
abbrev pub learnt : {Q : Type 0} → MapState Q → Q → MapState Q
learnt m q = record { floor = m.floor; configs = m.configs ++ q ∷ [] }

-- the place of a configuration that is learnt, unless eight places are active or the top is the greatest number
abbrev pub learn_answer : {Q : Type 0} → MapState Q → Result ℕ Refusal
learn_answer m =
    if nat_le 8 (length m.configs) then Err refusal.TooManyActive
    else (if nat_le (2 ^ 64 - 1) (top_of m) then Err refusal.NumbersSpent else Ok (end_of m))

-- with the lowest active place removed
abbrev pub without_lowest : {Q : Type 0} → MapState Q → MapState Q
without_lowest m = record { floor = m.floor + 1; configs = drop 1 m.configs }

-- the place that is removed, unless it is the only active one
abbrev pub remove_answer : {Q : Type 0} → MapState Q → Result ℕ Refusal
remove_answer m = if nat_le (length m.configs) 1 then Err refusal.NothingToCollect else Ok m.floor
