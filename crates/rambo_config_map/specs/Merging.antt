-- What merging two maps means, place by place
use Rattle.std.specs.Prelude.{◌≡◌, ℕ, ◌≤◌, max, length}
use Rattle.rambo_config_map.specs.declared.entry.Entry.{Entry}
use Rattle.rambo_config_map.specs.declared.entry.Entry.TheVariants.{Unknown, Active, Removed}
use Rattle.rambo_config_map.specs.Maps.{MapState, entry_at, top_of, merged_map}

-- the greater of unknown < active < removed, and the first one where both are active
abbrev pub greater_entry : {Q : Type 0} → Entry Q → Entry Q → Entry Q
greater_entry Unknown e = e
greater_entry (Active q) Unknown = Active q
greater_entry (Active q) (Active r) = Active q
greater_entry (Active q) Removed = Removed
greater_entry Removed e = Removed

-- at each place the merged map has the greater entry
abbrev pub HasGreaterEntries : {Q : Type 0} → MapState Q → MapState Q → Type 0
HasGreaterEntries a b = (p : ℕ) → entry_at (merged_map a b) p ≡ greater_entry (entry_at a p) (entry_at b p)

-- a place is active
abbrev pub HasActive : {Q : Type 0} → MapState Q → Type 0
HasActive m = 1 ≤ length m.configs

-- the merged map has the greater top
abbrev pub HasGreaterTop : {Q : Type 0} → MapState Q → MapState Q → Type 0
HasGreaterTop a b = top_of (merged_map a b) ≡ max (top_of a) (top_of b)

-- the merged map has no more active places than the map with the greater top
abbrev pub IsNoLonger : {Q : Type 0} → MapState Q → MapState Q → Type 0
IsNoLonger a b =
    (top_of b ≤ top_of a → length (merged_map a b).configs ≤ length a.configs)
    × (top_of a ≤ top_of b → length (merged_map a b).configs ≤ length b.configs)
