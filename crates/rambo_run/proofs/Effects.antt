-- A place is removed only after a step told that it was collected, and what a step tells to be decided stands
use Rattle.std.proofs.Common.{◌≡◌, ℕ, zero, suc, ◌+◌, ◌<◌, ◌≤◌, ◌⊎◌, nat_eq, nat_lt, Option, Some, None, refl, sym, ap, ◌∙◌, subst, inl, inr, ⊎_elim, arith, eq-or-lt_of_le}
use Rattle.std.proofs.lemmas.Bool.{cases_lt, ltb-false}
use Rattle.rambo_names.specs.Quorums.{QuorumSystem}
use Rattle.rambo_history.specs.declared.event.CallId.{CallId}
use Rattle.rambo_config_map.specs.Maps.{active_at, end_of, without_lowest}
use Rattle.rambo_gc.specs.declared.gc_move.GcMove.{GcMove}
use Rattle.rambo_gc.specs.declared.gc_move.GcMove.TheVariants.{Propagating, Done}
use Rattle.rambo_gc.specs.Collections.{CollectionState}
use Rattle.rambo_paxos.specs.declared.bid.Bid.{Bid}
use Rattle.rambo_paxos.specs.declared.bid.Bid.TheVariants as bid
use Rattle.rambo_paxos.specs.Attempts.{AttemptState, bid_of}
use Rattle.rambo_gossip.specs.Letters.{LetterState}
use Rattle.rambo_gossip.specs.Gossips.{GossipState}
use Rattle.rambo_gossip.specs.Kinds.{Kind}
use Rattle.rambo_gossip.specs.Kinds as kind
use Rattle.rambo_node.specs.Acts.{Act, delivery}
use Rattle.rambo_node.specs.declared.effect.Effect.TheVariants as effect
use Rattle.rambo_calls.specs.declared.stage.Stage.{Stage}
use Rattle.rambo_calls.specs.declared.stage.Stage.TheVariants.{Query, Propagation}
use Rattle.rambo_calls.specs.Calls.{CallState}
use Rattle.rambo_node.specs.Changes.{Made, Quieted, stage_met, advanced, begun_again, collection_turned, collection_advanced, rebid_made, decided, bid_made, attempt_advanced, made_by}
use Rattle.rambo_node.specs.Hearing.{heard_kind, heard_join, heard_gossip}
use Rattle.rambo_node.specs.Nodes.{NodeState, open_call, first_node}
use Rattle.rambo_node.specs.Operations.{called, query_answered, call_closed, called_again, joined_by, stopped}
use Rattle.rambo_node.specs.Reconfigurations.{attempt_opened, attempt_rebid, attempt_moved, config_learnt, attempt_ended, collection_opened, collection_move, collection_moved, collection_ended}
use Rattle.rambo_node.specs.Acts as act
use Rattle.rambo_node.specs.declared.prepared.Quiet.TheVariants as quiet
use Rattle.rambo_joiner.specs.Statuses.{is_active}
use Rattle.rambo_node.specs.Steps.{Step}
use Rattle.rambo_node.specs.declared.step.StepOf.TheVariants as step
use Rattle.rambo_run.specs.Worlds.{WorldState, node_at, letter_at}
use Rattle.rambo_run.specs.Steps.{turn_by, turn_at, turn_of, turn}
use Rattle.rambo_run.specs.Configurations.{RemovedPlacesAreTold}
use Rattle.rambo_run.proofs.Moments.{moment, worlds}
use Rattle.rambo_run.proofs.Lists.{pick}
use Rattle.rambo_run.proofs.Held.{up}
use Rattle.rambo_run.proofs.Collections.{collection_at}
use Rattle.rambo_run.proofs.Seen.{seen_at, seen_put}
use Rattle.rambo_run.proofs.Sights.{Worlds, Happens, at, is_at}
use Rattle.rambo_run.proofs.Worlds.{sound, run_of}
use Rattle.rambo_run.proofs.Doings.{kind_told}

-- the floor stays
abbrev StaysAbove : {Q : Type 0} → NodeState Q → Made Q → Type 0
StaysAbove x m = m.node.map.floor ≡ x.map.floor

stage_floor : {Q : Type 0} (x : NodeState Q) (id : CallId) (c : CallState Q) (g : Stage) → StaysAbove x (stage_met x id c g)
unfolding query_answered call_closed
stage_floor x id c Query = refl
stage_floor x id c (Propagation kept) = refl

advance_floor : {Q : Type 0} (x : NodeState Q) (id : CallId) (o : Option (CallState Q)) → StaysAbove x (advanced x id o)
advance_floor x id None = refl
advance_floor x id (Some c) = stage_floor x id c c.stage

-- it stays after a quiet act
abbrev StaysQuietly : {Q : Type 0} → NodeState Q → Quieted Q → Type 0
StaysQuietly x m = m.node.map.floor ≡ x.map.floor

again_floor : {Q : Type 0} (x : NodeState Q) (o : Option (CallState Q)) → StaysQuietly x (begun_again x o)
unfolding called_again
again_floor x None = refl
again_floor x (Some c) = refl

rebid_floor : {Q : Type 0} (x : NodeState Q) (o : Option (AttemptState Q)) → StaysQuietly x (rebid_made x o)
unfolding attempt_rebid
rebid_floor x None = refl
rebid_floor x (Some a) = refl

bid_floor : {Q : Type 0} (x : NodeState Q) (a : AttemptState Q) (b : Bid Q) → StaysQuietly x (bid_made x a b)
unfolding attempt_moved config_learnt
bid_floor x a bid.Propose = refl
bid_floor x a (bid.Chosen c) = refl

attempt_floor : {Q : Type 0} (x : NodeState Q) (o : Option (AttemptState Q)) → StaysQuietly x (attempt_advanced x o)
unfolding attempt_ended
attempt_floor x None = refl
attempt_floor x (Some a) =
    elim (pick (nat_lt a.place (end_of x.map)) (record { node = attempt_ended x; effect = decided x a (active_at x.map a.place) }) (bid_made x a (bid_of a))) [
      | inl p ↦ ap (λ m. m.node.map.floor) p.1
      | inr p ↦ ap (λ m. m.node.map.floor) p.1 ∙ bid_floor x a (bid_of a)
    ]

-- the floor stays, or rises by one after a collection that is told
abbrev MayCollect : {Q : Type 0} → NodeState Q → Quieted Q → Type 0
MayCollect x m = StaysQuietly x m ⊎ ((g : CollectionState) × (x.collection ≡ Some g) × (x.map.floor ≤ g.place) × (m.node.map.floor ≡ x.map.floor + 1) × (m.effect ≡ effect.Collected x.name g.place))

turned_floor : {Q : Type 0} (x : NodeState Q) (g : CollectionState) (move : GcMove) → x.collection ≡ Some g → MayCollect x (collection_turned x g move)
unfolding collection_moved collection_ended
turned_floor x g Propagating i = inl refl
turned_floor x g Done i = elim (pick (nat_lt g.place x.map.floor) x.map (without_lowest x.map)) [
  | inl p ↦ inl (ap (λ m. m.floor) p.1)
  | inr p ↦ inr (g, i, ltb-false g.place x.map.floor p.0, ap (λ m. m.floor) p.1, refl)
]

collection_floor : {Q : Type 0} (x : NodeState Q) (o : Option CollectionState) → x.collection ≡ o → MayCollect x (collection_advanced x o)
collection_floor x None i = inl refl
collection_floor x (Some g) i = turned_floor x g (collection_move x.map g) i

module _ {Q : Type 0} (s : QuorumSystem Q) (founders : Q) (world : ℕ → WorldState Q) (all : Worlds s founders world) (p : ℕ) where
  -- place p is removed at node n after m steps
  abbrev Removed : ℕ → ℕ → Type 0
  Removed m n = p < (at s founders world all m n).map.floor

  -- a step before moment m told that it was collected
  pub record WasTold (m : ℕ) : Type 0 where
    pub moment : ℕ
    pub before : moment < m
    pub node : ℕ
    pub happens : Happens s founders world all moment (step.AdvanceCollect node)
    pub effect : (turn (world moment) (step.AdvanceCollect node)).effect ≡ effect.Collected node p

  -- it was removed somewhere before, or is told now
  abbrev Cause : ℕ → Type 0
  Cause m = ((u : ℕ) × (j : ℕ) × (u ≤ m) × Removed u j) ⊎ WasTold (suc m)

  abbrev RemovedIn : WorldState Q → ℕ → Type 0
  RemovedIn w n = p < (seen_at s founders w n).map.floor

  -- a change of node k, whose floor is what it is for a cause
  changed : (m n k : ℕ) (x : NodeState Q) (c : Act Q) → node_at (world m) k ≡ Some x → (p < (made_by x c).node.map.floor → Cause m) → RemovedIn (turn_by (world m) k (made_by x c)).world n → Cause m
  changed m n k x c e f h =
      let put = seen_put s founders (world m) (turn_by (world m) k (made_by x c)).world k x (made_by x c).node e refl n in
      elim (pick (nat_eq n k) (made_by x c).node (seen_at s founders (world m) n)) [
        | inl q ↦ f (subst (λ y. p < y.map.floor) (put ∙ q.1) h)
        | inr q ↦ inl (m, n, omega arith, subst (λ y. p < y.map.floor) (put ∙ q.1) h)
      ]

  quiet_at : (m n k : ℕ) (c : Act Q) → ((x : NodeState Q) → StaysAbove x (made_by x c)) → (o : Option (NodeState Q)) → node_at (world m) k ≡ o → RemovedIn (turn_at (world m) k o c).world n → Cause m
  quiet_at m n k c f None e h = inl (m, n, omega arith, h)
  quiet_at m n k c f (Some x) e h =
      changed m n k x c e (λ l. inl (m, k, omega arith, subst (λ x. p < x.map.floor) (is_at s founders world all m k x e) (subst (λ q. p < q) (f x) l))) h

  heard_at : (m n k j : ℕ) (g : Kind Q) → ((h : GossipState Q) → g ≡ kind.Gossip h → p < h.map.floor → Cause m) → (x : NodeState Q) → x ≡ at s founders world all m k → p < (heard_kind x j g).map.floor → Cause m
  unfolding heard_join heard_gossip
  heard_at m n k j kind.Join f x e h = inl (m, k, omega arith, subst (λ x. p < x.map.floor) e h)
  heard_at m n k j (kind.Gossip g) f x e h = elim (cases_lt p x.map.floor) [
    | inl l ↦ inl (m, k, omega arith, subst (λ x. p < x.map.floor) e l)
    | inr l ↦ f g refl (omega (arith, h, l))
  ]

  -- what a letter tells was so before
  letter_cause : (m i : ℕ) (l : LetterState Q) → letter_at (world m).letters i ≡ Some l → (g : GossipState Q) → l.kind ≡ kind.Gossip g → p < g.map.floor → Cause m
  letter_cause m i l e g k h =
      let f = (sound s founders world all m).letters i l e in
      let y = at s founders world all f.moment f.sender in
      let q = kind_told s founders world all g y f.addressee (is_active y.status) (ap (λ l. l.kind) f.content ∙ k) in
      inl (f.moment, f.sender, omega (arith, f.before), subst (λ g. p < g.map.floor) q.1 h)

  delivered_at : (m n i : ℕ) (l : LetterState Q) → letter_at (world m).letters i ≡ Some l → (o : Option (NodeState Q)) → node_at (world m) l.addressee ≡ o
      → RemovedIn (turn_at (world m) l.addressee o (act.Hear l)).world n → Cause m
  unfolding made_by
  delivered_at m n i l e None a h = inl (m, n, omega arith, h)
  delivered_at m n i l e (Some x) a h =
      changed m n l.addressee x (act.Hear l) a (heard_at m n l.addressee l.sender l.kind (letter_cause m i l e) x (is_at s founders world all m l.addressee x a)) h

  delivered : (m n i : ℕ) (o : Option (LetterState Q)) → letter_at (world m).letters i ≡ o → RemovedIn (turn_of (world m) (delivery o)).world n → Cause m
  delivered m n i None e h = inl (m, n, omega arith, h)
  delivered m n i (Some l) e h = delivered_at m n i l e (node_at (world m) l.addressee) refl h

  -- the collection that ends is told, and is the one of the floor
  collected_at : (m n k : ℕ) → Happens s founders world all m (step.AdvanceCollect k) → (x : NodeState Q) → node_at (world m) k ≡ Some x → RemovedIn (turn_by (world m) k (made_by x (act.Quietly quiet.AdvanceCollect))).world n → Cause m
  unfolding turn made_by
  collected_at m n k d x e h =
      let is = is_at s founders world all m k x e in
      let here : p < x.map.floor → Cause m = λ l. inl (m, k, omega arith, subst (λ x. p < x.map.floor) is l) in
      changed m n k x (act.Quietly quiet.AdvanceCollect) e (λ l. elim (collection_floor x x.collection refl) [
        | inl q ↦ here (subst (λ f. p < f) q l)
        | inr q ↦ elim (cases_lt p x.map.floor) [
          | inl low ↦ here low
          | inr high ↦ (let g = q.0 in
              let o = collection_at s founders (at s founders world all) (run_of s founders world all) m k g (ap (λ x. x.collection) (sym is) ∙ q.1) in
              let grows = (up s founders (at s founders world all) (run_of s founders world all) o.opened m k o.before).floor in
              let place : g.place ≡ p = omega (arith, l, high, q.2, q.3, o.floor, grows, ap (λ x. x.map.floor) is) in
              let name : x.name ≡ k = ap (λ x. x.name) is ∙ (sound s founders world all m).names k in
              inr (record {
                moment = m;
                before = omega arith;
                node = k;
                happens = d;
                effect = ap (λ o. (turn_at (world m) k o (act.Quietly quiet.AdvanceCollect)).effect) e
                    ∙ q.4 ∙ (λ i. effect.Collected (name i) (place i));
              }))
        ]
      ]) h

  collect_at : (m n k : ℕ) → Happens s founders world all m (step.AdvanceCollect k) → (o : Option (NodeState Q)) → node_at (world m) k ≡ o → RemovedIn (turn_at (world m) k o (act.Quietly quiet.AdvanceCollect)).world n → Cause m
  collect_at m n k d None e h = inl (m, n, omega arith, h)
  collect_at m n k d (Some x) e h = collected_at m n k d x e h

  step_cause : (m n : ℕ) (st : Step Q) → Happens s founders world all m st → RemovedIn (turn (world m) st).world n → Cause m
  unfolding turn made_by joined_by called collection_opened attempt_opened stopped
  step_cause m n (step.Deliver i) d h = delivered m n i (letter_at (world m).letters i) refl h
  step_cause m n (step.Advance id) d h = quiet_at m n id.name (act.Advance id) (λ x. advance_floor x id (open_call x id)) (node_at (world m) id.name) refl h
  step_cause m n (step.Again id) d h = quiet_at m n id.name (act.Quietly (quiet.Again id)) (λ x. again_floor x (open_call x id)) (node_at (world m) id.name) refl h
  step_cause m n (step.AdvanceCollect k) d h = collect_at m n k d (node_at (world m) k) refl h
  step_cause m n (step.Rebid k) d h = quiet_at m n k (act.Quietly quiet.Rebid) (λ x. rebid_floor x x.attempt) (node_at (world m) k) refl h
  step_cause m n (step.AdvanceRecon k) d h = quiet_at m n k (act.Quietly quiet.AdvanceRecon) (λ x. attempt_floor x x.attempt) (node_at (world m) k) refl h
  step_cause m n _ d h = quiet_at m n _ _ (λ x. refl) (node_at (world m) _) refl h

  none_removed : (n : ℕ) → Removed 0 n → ⊥
  unfolding first_node
  none_removed n h = let e = ap (λ x. x.map.floor) ((run_of s founders world all).first n) in omega (arith, h, e)

  later_told : (m k : ℕ) → m ≤ k → WasTold m → WasTold k
  later_told m k h t = record { moment = t.moment; before = omega (arith, t.before, h); node = t.node; happens = t.happens; effect = t.effect }

  cause_next : (m n : ℕ) → Removed (suc m) n → Cause m
  cause_next m n q = elim (all.next m) [
    | inl e ↦ inl (m, n, omega arith, subst (λ w. RemovedIn w n) e q)
    | inr t ↦ step_cause m n t.0 (t.3, t.1) (subst (λ w. RemovedIn w n) t.2 q)
  ]

  -- at all moments up to m
  told_to : (m u n : ℕ) → u ≤ m → Removed u n → WasTold m
  told_to zero u n h r = let z : u ≡ 0 = omega arith in absurd (none_removed n (subst (λ u. Removed u n) z r))
  told_to (suc m) u n h r = ⊎_elim
      (λ e. ⊎_elim (λ o. later_told m (suc m) (omega arith) (told_to m o.0 o.1 o.2 o.3)) (λ t. t) (cause_next m n (subst (λ u. Removed u n) e r)))
      (λ l. later_told m (suc m) (omega arith) (told_to m u n (omega (arith, l)) r)) (eq-or-lt_of_le h)

  -- a place that a node's map has removed was told to be collected before
  pub was_told : (m n : ℕ) → p < (at s founders world all m n).map.floor → WasTold m
  was_told m n r = told_to m m n (omega arith) r

pub removed_places_are_told : {Q : Type 0} (s : QuorumSystem Q) → RemovedPlacesAreTold s
unfolding worlds
removed_places_are_told s founders ss m n x e p h =
    let world = moment s founders ss in
    let all = worlds s founders ss in
    let t = was_told s founders world all p m n (subst (λ x. p < x.map.floor) (is_at s founders world all m n x e) h) in
    (t.moment, t.node, t.before, t.happens, t.effect)
