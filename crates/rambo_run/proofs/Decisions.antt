-- What a step tells to be decided for a place stands there
use Rattle.std.proofs.Common.{◌≡◌, ℕ, zero, suc, ◌+◌, ◌-◌, nat_lt, List, [], ◌∷◌, length, take, Option, Some, None, slice_get, refl, sym, ap, ◌∙◌, subst, inl, inr, arith}
use Rattle.std.proofs.lemmas.Bool.{ltb-false}
use Rattle.rambo_names.specs.Quorums.{QuorumSystem}
use Rattle.rambo_config_map.specs.Maps.{MapState, active_at, end_of, learnt}
use Rattle.rambo_config_map.specs.MapLaws.{active_kept, get_right}
use Rattle.rambo_paxos.specs.declared.bid.Bid.{Bid}
use Rattle.rambo_paxos.specs.declared.bid.Bid.TheVariants as bid
use Rattle.rambo_paxos.specs.Attempts.{AttemptState, bid_of}
use Rattle.rambo_node.specs.declared.effect.Effect.{Effect}
use Rattle.rambo_node.specs.declared.effect.Effect.TheVariants as effect
use Rattle.rambo_node.specs.Changes.{Quieted, decided, bid_made, attempt_advanced, made_by}
use Rattle.rambo_node.specs.Nodes.{NodeState}
use Rattle.rambo_node.specs.Reconfigurations.{config_learnt, attempt_ended}
use Rattle.rambo_node.specs.Acts as act
use Rattle.rambo_node.specs.declared.prepared.Quiet.TheVariants as quiet
use Rattle.rambo_node.specs.Steps.{Step}
use Rattle.rambo_node.specs.declared.step.StepOf.TheVariants as step
use Rattle.rambo_run.specs.Worlds.{WorldState, node_at}
use Rattle.rambo_run.specs.Steps.{refusal, turn_by, turn_at, turn}
use Rattle.rambo_run.specs.Runs.{unless_refused, after, run_from, run}
use Rattle.rambo_run.specs.Configurations.{DecisionsStand}
use Rattle.rambo_run.proofs.Lists.{pick, some_inj, none-some}
use Rattle.rambo_run.proofs.Formed.{IsFormed, formed}
use Rattle.rambo_run.proofs.Sights.{at, is_at}
use Rattle.rambo_run.proofs.Worlds.{run_of, sound}
use Rattle.rambo_run.proofs.Moments.{moment, worlds}
use Rattle.rambo_run.proofs.Replays.{own_put}

-- what an effect tells to be decided, and by whom
pub record Decision (Q : Type 0) : Type 0 where
  name : ℕ
  place : ℕ
  config : Option Q

abbrev decision_in : {Q : Type 0} → Effect Q → Option (Decision Q)
decision_in (effect.Decided n d) = Some (record { name = n; place = d.place; config = d.config })
decision_in effect.Done = None
decision_in (effect.Called id) = None
decision_in (effect.Sent number) = None
decision_in effect.Moved = None
decision_in (effect.Answered id answer) = None
decision_in (effect.Collected n place) = None

-- what node x, with this map, tells
record Stands {Q : Type 0} (x : NodeState Q) (made : Quieted Q) (n p : ℕ) (c : Q) : Type 0 where
  name : n ≡ x.name
  active : active_at made.node.map p ≡ Some c

-- a learnt configuration is active
learnt_active : {Q : Type 0} (m : MapState Q) (c : Q) → active_at (learnt m c) (end_of m) ≡ Some c
learnt_active m c =
    let i : (end_of m - m.floor) - length m.configs ≡ 0 = omega arith in
    active_kept (learnt m c) (end_of m) (omega arith) ∙ get_right m.configs (c ∷ []) (end_of m - m.floor) (omega arith) ∙ ap (slice_get (c ∷ [])) i

module _ {Q : Type 0} (x : NodeState Q) (f : IsFormed x) (n p : ℕ) (c : Q) where
  abbrev Tells : Quieted Q → Type 0
  Tells m = decision_in m.effect ≡ Some (record { name = n; place = p; config = Some c })

  parts : (d : Decision Q) → Some d ≡ Some (record { name = n; place = p; config = Some c }) → (n ≡ d.name) × (p ≡ d.place) × (d.config ≡ Some c)
  parts d e =
      let q : d ≡ record { name = n; place = p; config = Some c } = some_inj d (record { name = n; place = p; config = Some c }) e in
      (sym (ap (λ d. d.name) q), sym (ap (λ d. d.place) q), ap (λ d. d.config) q)

  bid_stands : (a : AttemptState Q) → a.place ≡ end_of x.map → (b : Bid Q) → Tells (bid_made x a b) → Stands x (bid_made x a b) n p c
  unfolding config_learnt
  bid_stands a i bid.Propose e = absurd (none-some _ e)
  bid_stands a i (bid.Chosen d) e =
      let q = parts (record { name = x.name; place = a.place; config = Some d }) e in
      record { name = q.0; active = ap (active_at (learnt x.map d)) (q.1 ∙ i) ∙ learnt_active x.map d ∙ q.2 }

  attempt_stands : (o : Option (AttemptState Q)) → x.attempt ≡ o → Tells (attempt_advanced x o) → Stands x (attempt_advanced x o) n p c
  unfolding attempt_ended
  attempt_stands None i e = absurd (none-some _ e)
  attempt_stands (Some a) i e =
      elim (pick (nat_lt a.place (end_of x.map)) (record { node = attempt_ended x; effect = decided x a (active_at x.map a.place) }) (bid_made x a (bid_of a))) [
        | inl t ↦ (let q = parts (record { name = x.name; place = a.place; config = active_at x.map a.place }) (subst Tells t.1 e) in
            subst (λ m. Stands x m n p c) (sym t.1) (record { name = q.0; active = ap (active_at x.map) q.1 ∙ q.2 }))
        | inr t ↦ (let low = f.place a i in let high = ltb-false a.place (end_of x.map) t.0 in
            subst (λ m. Stands x m n p c) (sym t.1) (bid_stands a (omega (arith, low, high)) (bid_of a) (subst Tells t.1 e)))
      ]

module _ {Q : Type 0} (s : QuorumSystem Q) where
  -- the world after one step more
  one_more : (ss : List (Step Q)) (w : WorldState Q) (m : ℕ) (st : Step Q) → slice_get ss m ≡ Some st → run_from s w (take (suc m) ss) ≡ after s (run_from s w (take m ss)) st
  unfolding run_from
  one_more [] w m st e = absurd (none-some st e)
  one_more (t ∷ ss) w zero st e = ap (after s w) (some_inj t st e)
  one_more (t ∷ ss) w (suc m) st e = one_more ss (after s w t) m st e

  done_after : (w : WorldState Q) (st : Step Q) → refusal s w st ≡ None → after s w st ≡ (turn w st).world
  unfolding after
  done_after w st e = ap (λ o. unless_refused o w (turn w st).world) e

  pub next_world : (founders : Q) (ss : List (Step Q)) (m : ℕ) (st : Step Q) → slice_get ss m ≡ Some st → refusal s (run s founders (take m ss)) st ≡ None
      → run s founders (take (m + 1) ss) ≡ (turn (run s founders (take m ss)) st).world
  unfolding run
  next_world founders ss m st e r =
      let i : m + 1 ≡ suc m = omega arith in
      ap (λ k. run s founders (take k ss)) i ∙ one_more ss _ m st e ∙ done_after _ st r

  abbrev Told : WorldState Q → ℕ → Option (NodeState Q) → ℕ → ℕ → Q → Type 0
  Told w k o n p c = (turn_at w k o (act.Quietly quiet.AdvanceRecon)).effect ≡ effect.Decided n (record { place = p; config = Some c })

  stands_at : (w : WorldState Q) (k n p : ℕ) (c : Q) → ((x : NodeState Q) → node_at w k ≡ Some x → IsFormed x × (x.name ≡ k)) → (o : Option (NodeState Q)) → node_at w k ≡ o → Told w k o n p c
      → (y : NodeState Q) × (node_at (turn_at w k o (act.Quietly quiet.AdvanceRecon)).world n ≡ Some y) × (active_at y.map p ≡ Some c)
  unfolding made_by
  stands_at w k n p c f None i e = absurd (none-some _ (ap decision_in e))
  stands_at w k n p c f (Some x) i e =
      let made = attempt_advanced x x.attempt in
      let g = f x i in
      let r = attempt_stands x g.0 n p c x.attempt refl (ap decision_in e) in
      let new = (turn_by w k (made_by x (act.Quietly quiet.AdvanceRecon))).world in
      let same : n ≡ k = r.name ∙ g.1 in
      (made.node, subst (λ n. node_at new n ≡ Some made.node) (sym same) (own_put w new k x made.node i refl), r.active)

-- what a step tells to be decided for a place stands there
pub decisions_stand : {Q : Type 0} (s : QuorumSystem Q) → DecisionsStand s
unfolding turn
decisions_stand {Q = Q} s founders ss m n k p c d e =
    let world = moment s founders ss in
    let all = worlds s founders ss in
    let w = world m in
    let f : (x : NodeState Q) → node_at w k ≡ Some x → IsFormed x × (x.name ≡ k) = λ x i.
    let is = is_at s founders world all m k x i in
    (subst IsFormed (sym is) (formed s founders (at s founders world all) (run_of s founders world all) m k), ap (λ x. x.name) is ∙ (sound s founders world all m).names k) in
    let r = stands_at s w k n p c f (node_at w k) refl e in
    (r.0, ap (λ w. node_at w n) (next_world s founders ss m (step.AdvanceRecon k) d.0 d.1) ∙ r.1, r.2)
