-- Where the configuration of a place comes from: the founders, or an attempt that some node's advance ended
use Rattle.std.proofs.Common.{◌≡◌, ℕ, zero, suc, ◌≤◌, ◌⊎◌, Some, sym, ap, ◌∙◌, subst, inl, inr, ⊎_elim, arith, eq-or-lt_of_le, refl}
use Rattle.rambo_names.specs.Quorums.{QuorumSystem}
use Rattle.rambo_config_map.specs.Maps.{end_of, active_at, first_map}
use Rattle.rambo_paxos.specs.declared.stage.Stage.TheVariants as stage
use Rattle.rambo_paxos.specs.Attempts.{AttemptState}
use Rattle.rambo_node.specs.Nodes.{NodeState, first_node}
use Rattle.rambo_run.proofs.Lists.{some_inj}
use Rattle.rambo_run.proofs.Turn.{Moments, Telling, IsBacked, Run}
use Rattle.rambo_run.proofs.Altering.{MapTurn, map_merges, map_moves, map_stays, map_loses, map_gains, map_turn}
use Rattle.rambo_run.proofs.Places.{HeldAt, active_within, merged_from, lost_from, gained_from}

-- a node whose map ended at place p had its proposal of c accepted by a quorum
pub record ChosenAt {Q : Type 0} (s : QuorumSystem Q) (at : Moments Q) (p : ℕ) (c : Q) : Type 0 where
  pub moment : ℕ
  pub node : ℕ
  pub end : end_of (at moment node).map ≡ p
  pub attempt : AttemptState Q
  pub backed : IsBacked s (at moment node) attempt
  pub stage : attempt.stage ≡ stage.Propose c

abbrev pub Origin : {Q : Type 0} → QuorumSystem Q → Q → Moments Q → ℕ → Q → Type 0
Origin s founders at p c = ((p ≡ 0) × (c ≡ founders)) ⊎ ChosenAt s at p c

first_active : {Q : Type 0} (founders : Q) (p : ℕ) (c : Q) → active_at (first_map founders) p ≡ Some c → (p ≡ 0) × (c ≡ founders)
first_active founders zero c e = (refl, some_inj c founders (sym e))
first_active founders (suc p) c e = absurd (let h = active_within (first_map founders) (suc p) c e in omega (arith, h.1))

module _ {Q : Type 0} {T : Telling} (s : QuorumSystem Q) (founders : Q) (at : Moments Q) (run : Run s T founders at) where
  abbrev FromOrigin : NodeState Q → Type 0
  FromOrigin x = (p : ℕ) (c : Q) → active_at x.map p ≡ Some c → Origin s founders at p c

  origin_turn : (m n : ℕ) → ((u j : ℕ) → u ≤ m → FromOrigin (at u j)) → (y : NodeState Q) → MapTurn s at m (at m n) y → FromOrigin y
  origin_turn m n f y (map_merges u j h e) p c a =
      ⊎_elim (f m n (omega arith) p c) (f u j h p c) (merged_from (at m n).map (at u j).map p c (subst (λ m. active_at m p ≡ Some c) e a))
  origin_turn m n f y (map_moves (map_stays e)) p c a = f m n (omega arith) p c (subst (λ m. active_at m p ≡ Some c) e a)
  origin_turn m n f y (map_moves (map_loses g i h e o)) p c a = f m n (omega arith) p c (lost_from (at m n).map p c (subst (λ m. active_at m p ≡ Some c) e a))
  origin_turn m n f y (map_moves (map_gains b q k g e)) p c a =
      elim (gained_from (at m n).map q p c (subst (λ m. active_at m p ≡ Some c) e a)) [
        | inl o ↦ f m n (omega arith) p c o
        | inr o ↦ inr (record { moment = m; node = n; end = sym o.0; attempt = b; backed = k; stage = g ∙ ap stage.Propose o.1 })
      ]

  origin_first : (n : ℕ) → FromOrigin (first_node s founders n)
  unfolding first_node
  origin_first n p c e = inl (first_active founders p c e)

  -- at all moments up to m
  origin_to : (m u n : ℕ) → u ≤ m → FromOrigin (at u n)
  origin_to zero u n h =
      let z : u ≡ 0 = omega arith in subst (λ u. FromOrigin (at u n)) (sym z) (subst FromOrigin (sym (run.first n)) (origin_first n))
  origin_to (suc m) u n h = ⊎_elim
      (λ e. subst (λ u. FromOrigin (at u n)) (sym e) (origin_turn m n (origin_to m) (at (suc m) n) (map_turn s at m n (at m n) (at (suc m) n) (run.turn m n))))
      (λ l. origin_to m u n (omega (arith, l))) (eq-or-lt_of_le h)

  pub origin : (p : ℕ) (c : Q) → HeldAt at p c → Origin s founders at p c
  origin p c h = origin_to h.moment h.moment h.node (omega arith) p c h.active
