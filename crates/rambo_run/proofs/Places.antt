-- The configurations that nodes hold, place by place
use Rattle.std.proofs.Common.{◌≡◌, ℕ, ◌+◌, ◌-◌, ◌<◌, ◌≤◌, max, ◌⊎◌, Option, Some, slice_get, sym, ap, ◌∙◌, inl, inr, ⊎_elim, arith}
use Rattle.std.proofs.lemmas.Bool.{cases_lt}
use Rattle.rambo_config_map.specs.Maps.{MapState, end_of, active_at, merged_map, learnt, without_lowest}
use Rattle.rambo_config_map.specs.MapLaws.{get_drop, active_kept, active_removed, merged_own, merged_other}
use Rattle.rambo_run.proofs.Lists.{none-some, below_there, there_below, get_more}
use Rattle.rambo_run.proofs.Turn.{Moments}

-- some node held this configuration at this place, at some moment
pub record HeldAt {Q : Type 0} (at : Moments Q) (p : ℕ) (c : Q) : Type 0 where
  pub moment : ℕ
  pub node : ℕ
  pub active : active_at (at moment node).map p ≡ Some c

-- a configuration that there is, and that was held at this place
pub record HeldConfig {Q : Type 0} (at : Moments Q) (p : ℕ) (o : Option Q) : Type 0 where
  pub config : Q
  pub is : o ≡ Some config
  pub held : HeldAt at p config

-- each place from the floor to the end is active
pub active_there : {Q : Type 0} (m : MapState Q) (p : ℕ) → m.floor ≤ p → p < end_of m → (c : Q) × (active_at m p ≡ Some c)
active_there m p l h = let r = below_there m.configs (p - m.floor) (omega (arith, l, h)) in (r.0, active_kept m p l ∙ r.1)

-- and no other place is
pub active_within : {Q : Type 0} (m : MapState Q) (p : ℕ) (c : Q) → active_at m p ≡ Some c → (m.floor ≤ p) × (p < end_of m)
active_within m p c e = elim (cases_lt p m.floor) [
  | inl l ↦ absurd (none-some c (sym (active_removed m p l) ∙ e))
  | inr l ↦ (l, omega (arith, l, there_below m.configs (p - m.floor) c (sym (active_kept m p l) ∙ e)))
]

pub held_in : {Q : Type 0} (at : Moments Q) (m n p : ℕ) → (at m n).map.floor ≤ p → p < end_of (at m n).map → HeldConfig at p (active_at (at m n).map p)
held_in at m n p l h = let r = active_there (at m n).map p l h in record { config = r.0; is = r.1; held = record { moment = m; node = n; active = r.1 } }

-- what is active in a merged map is so in one of the two
pub merged_from : {Q : Type 0} (a b : MapState Q) (p : ℕ) (c : Q) → active_at (merged_map a b) p ≡ Some c → (active_at a p ≡ Some c) ⊎ (active_at b p ≡ Some c)
merged_from a b p c e = elim (cases_lt p (max a.floor b.floor)) [
  | inl l ↦ absurd (none-some c (sym (active_removed (merged_map a b) p l) ∙ e))
  | inr l ↦ (let k = sym (active_kept (merged_map a b) p l) ∙ e in elim (cases_lt p (end_of a)) [
    | inl h ↦ inl (active_kept a p (omega (arith, l)) ∙ sym (merged_own a b p l h) ∙ k)
    | inr h ↦ inr (active_kept b p (omega (arith, l)) ∙ sym (merged_other a b p l h) ∙ k)
  ])
]

-- what is active without the lowest place was so with it
pub lost_from : {Q : Type 0} (m : MapState Q) (p : ℕ) (c : Q) → active_at (without_lowest m) p ≡ Some c → active_at m p ≡ Some c
lost_from m p c e = elim (cases_lt p (m.floor + 1)) [
  | inl l ↦ absurd (none-some c (sym (active_removed (without_lowest m) p l) ∙ e))
  | inr l ↦ (let i : 1 + (p - (m.floor + 1)) ≡ p - m.floor = omega (arith, l) in
      active_kept m p (omega (arith, l)) ∙ ap (slice_get m.configs) (sym i) ∙ sym (get_drop 1 m.configs (p - (m.floor + 1))) ∙ sym (active_kept (without_lowest m) p l) ∙ e)
]

-- what is active with a learnt configuration was so before, or is the learnt one
pub gained_from : {Q : Type 0} (m : MapState Q) (q : Q) (p : ℕ) (c : Q) → active_at (learnt m q) p ≡ Some c → (active_at m p ≡ Some c) ⊎ ((p ≡ end_of m) × (q ≡ c))
gained_from m q p c e = elim (cases_lt p m.floor) [
  | inl l ↦ absurd (none-some c (sym (active_removed (learnt m q) p l) ∙ e))
  | inr l ↦ ⊎_elim (λ k. inl (active_kept m p l ∙ k)) (λ k. inr (omega (arith, k.0, l), k.1)) (get_more m.configs q c (p - m.floor) (sym (active_kept (learnt m q) p l) ∙ e))
]
