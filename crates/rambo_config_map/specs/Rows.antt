-- Rows of configurations, as they are stored
use Rattle.std.specs.Prelude.{ℕ, ◌-◌, Bool, true, Option, None, Some, List, [], ◌∷◌, slice_get}
use Rattle.rambo_names.specs.Names.{NameSet}
use Rattle.rambo_names.specs.Quorums.{QuorumSystem}

-- the configurations of the slots that have one
abbrev pub filled : {Q : Type 0} → List (Option Q) → List Q
filled [] = []
filled (Some q ∷ qs) = q ∷ filled qs
filled (None ∷ qs) = filled qs

-- configurations, and for how many of them there is room
pub record RowState (Q : Type 0) : Type 0 where
  pub configs : List Q
  pub capacity : ℕ

-- the configuration at a place, where the row begins at lo and the place isn't below
abbrev pub row_at : {Q : Type 0} → ℕ → List Q → ℕ → Option Q
row_at lo qs p = slice_get qs (p - lo)

-- the names contain a quorum of the configuration in a slot, if there is one
abbrev pub slot_has_quorum : {Q : Type 0} → QuorumSystem Q → NameSet → Option Q → Bool
slot_has_quorum s who None = true
slot_has_quorum s who (Some q) = s.is_quorum q who
