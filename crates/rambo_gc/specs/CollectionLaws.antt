-- Laws, no definitions: what proofs over runs read of collections
use Rattle.std.proofs.Common.{◌≡◌, ◌⊎◌, ℕ, Bool, true, false, nat_lt, if◌then◌else◌, Option, Some, None, subst, refl, inl, inr}
use Rattle.std.proofs.lemmas.Bool.{ltb-true, ltb-false}
use Rattle.rambo_names.specs.Names.{NameSet}
use Rattle.rambo_names.specs.Quorums.{QuorumSystem}
use Rattle.rambo_config_map.specs.Maps.{MapState, active_at}
use Rattle.rambo_gc.specs.declared.stage.Stage.{Stage}
use Rattle.rambo_gc.specs.declared.stage.Stage.TheVariants.{First, Second}
use Rattle.rambo_gc.specs.declared.gc_move.GcMove.{GcMove}
use Rattle.rambo_gc.specs.declared.gc_move.GcMove.TheVariants.{Propagating, Done}
use Rattle.rambo_gc.specs.Collections.{CollectionState, has_quorum, asked_place, is_met, next_move, move_of}
use Rattle.rambo_gc.specs.Turns.{HasQuorumAt, HasFirstQuorum, IsOver}

-- a quorum of the configuration, where there is one, is one of some configuration
pub quorum_of : {Q : Type 0} (s : QuorumSystem Q) (o : Option Q) (who : NameSet) → has_quorum s o who ≡ true
    → (q : Q) × (o ≡ Some q) × (s.is_quorum q who ≡ true)
quorum_of s None who e = cc
quorum_of s (Some q) who e = (q, refl, e)

quorum_at : {Q : Type 0} (s : QuorumSystem Q) (m : MapState Q) (g : CollectionState) (place : ℕ)
    → has_quorum s (active_at m place) g.repliers ≡ true → HasQuorumAt s m g place
quorum_at s m g place e =
    let w = quorum_of s (active_at m place) g.repliers e in record { config = w.0; active = w.1; quorum = w.2 }

propagating≢done : Propagating ≡ Done → ⊥
propagating≢done e = cc

-- what the two tests of an advance decide
turned : (removed met : Bool) (stage : Stage) (move : GcMove)
    → (if removed then Some Done else (if met then Some (next_move stage) else None)) ≡ Some move
    → ((removed ≡ true) × (move ≡ Done)) ⊎ ((removed ≡ false) × (met ≡ true) × (move ≡ next_move stage))
turned true met stage move e = inl (refl, (cc))
turned false true stage move e = inr (refl, refl, (cc))
turned false false stage move e = cc

from_first : (stage : Stage) → Propagating ≡ next_move stage → stage ≡ First
from_first First e = refl
from_first Second e = cc

from_second : (stage : Stage) → Done ≡ next_move stage → stage ≡ Second
from_second First e = cc
from_second Second e = refl

met_in : {Q : Type 0} (s : QuorumSystem Q) (m : MapState Q) (g : CollectionState) (stage : Stage) → g.stage ≡ stage → is_met s m g ≡ true
    → HasQuorumAt s m g (asked_place stage g.place)
met_in s m g stage e met =
    quorum_at s m g (asked_place stage g.place) (subst (λ t. has_quorum s (active_at m (asked_place t g.place)) g.repliers ≡ true) e met)

pub second_stage : {Q : Type 0} (s : QuorumSystem Q) (m : MapState Q) (g : CollectionState) → move_of s m g ≡ Some Propagating → HasFirstQuorum s m g
second_stage s m g e = elim (turned (nat_lt g.place m.floor) (is_met s m g) g.stage Propagating e) [
  | inl w ↦ absurd (propagating≢done w.1)
  | inr w ↦ (let first : g.stage ≡ First = from_first g.stage w.2 in
      record { stage = first; kept = ltb-false g.place m.floor w.0; met = met_in s m g First first w.1 })
]

pub collection_over : {Q : Type 0} (s : QuorumSystem Q) (m : MapState Q) (g : CollectionState) → move_of s m g ≡ Some Done → IsOver s m g
collection_over s m g e = elim (turned (nat_lt g.place m.floor) (is_met s m g) g.stage Done e) [
  | inl w ↦ inl (ltb-true g.place m.floor w.0)
  | inr w ↦ (let second : g.stage ≡ Second = from_second g.stage w.2 in
      inr (record { stage = second; kept = ltb-false g.place m.floor w.0; met = met_in s m g Second second w.1 }))
]
