-- Which step opened a collection, turned it to its second question, or ended it
use Rattle.std.proofs.Common.{◌≡◌, ℕ, suc, ◌+◌, ◌<◌, nat_eq, nat_lt, Option, Some, None, refl, sym, ap, ◌∙◌, subst, inl, inr, arith, eqb-true}
use Rattle.rambo_names.specs.Quorums.{QuorumSystem}
use Rattle.rambo_history.specs.declared.event.CallId.{CallId}
use Rattle.rambo_config_map.specs.Maps.{active_at, end_of}
use Rattle.rambo_gc.specs.declared.gc_move.GcMove.{GcMove}
use Rattle.rambo_gc.specs.declared.gc_move.GcMove.TheVariants.{Propagating, Done}
use Rattle.rambo_gc.specs.declared.stage.Stage.TheVariants.{First, Second}
use Rattle.rambo_gc.specs.Collections.{CollectionState, opened}
use Rattle.rambo_paxos.specs.declared.bid.Bid.{Bid}
use Rattle.rambo_paxos.specs.declared.bid.Bid.TheVariants as bid
use Rattle.rambo_paxos.specs.Attempts.{AttemptState, bid_of}
use Rattle.rambo_gossip.specs.Letters.{LetterState}
use Rattle.rambo_gossip.specs.Kinds.{Kind}
use Rattle.rambo_gossip.specs.Kinds as kind
use Rattle.rambo_node.specs.Acts.{Act, delivery}
use Rattle.rambo_calls.specs.declared.stage.Stage.{Stage}
use Rattle.rambo_calls.specs.declared.stage.Stage.TheVariants.{Query, Propagation}
use Rattle.rambo_calls.specs.Calls.{CallState}
use Rattle.rambo_node.specs.Changes.{Made, Quieted, stage_met, advanced, begun_again, collection_turned, collection_advanced, rebid_made, decided, bid_made, attempt_advanced, made_by}
use Rattle.rambo_node.specs.Hearing.{collection_after, heard_kind, heard_join, heard_gossip}
use Rattle.rambo_node.specs.Nodes.{NodeState, open_call}
use Rattle.rambo_node.specs.Operations.{called, query_answered, call_closed, called_again, joined_by, stopped}
use Rattle.rambo_node.specs.Reconfigurations.{attempt_opened, attempt_rebid, attempt_moved, config_learnt, attempt_ended, collection_opened, collection_move, collection_moved, collection_ended}
use Rattle.rambo_node.specs.Acts as act
use Rattle.rambo_node.specs.declared.prepared.Quiet.TheVariants as quiet
use Rattle.rambo_node.specs.Steps.{Step}
use Rattle.rambo_node.specs.declared.step.StepOf.TheVariants as step
use Rattle.rambo_run.specs.Worlds.{WorldState, node_at, letter_at}
use Rattle.rambo_run.specs.Steps.{turn_by, turn_at, turn_of, turn}
use Rattle.rambo_run.proofs.Lists.{pick, some_inj, none-some}
use Rattle.rambo_run.proofs.Formed.{collection_heard}
use Rattle.rambo_run.proofs.Seen.{seen_at, seen_put}
use Rattle.rambo_run.proofs.Sights.{Worlds, Happens, at, is_at}

-- the same question is asked, or none still
pub record SameQuestion (o p : Option CollectionState) : Type 0 where
  pub asks : (g : CollectionState) → p ≡ Some g → (d : CollectionState) × (o ≡ Some d) × (g.stage ≡ d.stage) × (g.number ≡ d.number)
  pub none : p ≡ None → o ≡ None

same_question : (o p : Option CollectionState) → p ≡ o → SameQuestion o p
same_question o p e = record { asks = λ g i. (g, sym e ∙ i, refl, refl); none = λ i. sym e ∙ i }

after_none : (o : Option CollectionState) (j heard : ℕ) → collection_after o j heard ≡ None → o ≡ None
after_none None j heard e = refl
after_none (Some d) j heard e = absurd (none-some _ (sym e))

after_question : (o : Option CollectionState) (j heard : ℕ) → SameQuestion o (collection_after o j heard)
after_question o j heard = record { asks = λ g e. let r = collection_heard o j heard g e in (r.0, r.1, r.2.stage, r.2.number); none = after_none o j heard }

-- an act leaves the collection
abbrev Leaves : {Q : Type 0} → NodeState Q → Made Q → Type 0
Leaves x m = m.node.collection ≡ x.collection

stage_leaves : {Q : Type 0} (x : NodeState Q) (id : CallId) (c : CallState Q) (g : Stage) → Leaves x (stage_met x id c g)
unfolding query_answered call_closed
stage_leaves x id c Query = refl
stage_leaves x id c (Propagation kept) = refl

advance_leaves : {Q : Type 0} (x : NodeState Q) (id : CallId) (o : Option (CallState Q)) → Leaves x (advanced x id o)
advance_leaves x id None = refl
advance_leaves x id (Some c) = stage_leaves x id c c.stage

-- and so does a quiet act
abbrev LeavesQuietly : {Q : Type 0} → NodeState Q → Quieted Q → Type 0
LeavesQuietly x m = m.node.collection ≡ x.collection

again_leaves : {Q : Type 0} (x : NodeState Q) (o : Option (CallState Q)) → LeavesQuietly x (begun_again x o)
unfolding called_again
again_leaves x None = refl
again_leaves x (Some c) = refl

rebid_leaves : {Q : Type 0} (x : NodeState Q) (o : Option (AttemptState Q)) → LeavesQuietly x (rebid_made x o)
unfolding attempt_rebid
rebid_leaves x None = refl
rebid_leaves x (Some a) = refl

bid_leaves : {Q : Type 0} (x : NodeState Q) (a : AttemptState Q) (b : Bid Q) → LeavesQuietly x (bid_made x a b)
unfolding attempt_moved config_learnt
bid_leaves x a bid.Propose = refl
bid_leaves x a (bid.Chosen c) = refl

attempt_leaves : {Q : Type 0} (x : NodeState Q) (o : Option (AttemptState Q)) → LeavesQuietly x (attempt_advanced x o)
unfolding attempt_ended
attempt_leaves x None = refl
attempt_leaves x (Some a) =
    elim (pick (nat_lt a.place (end_of x.map)) (record { node = attempt_ended x; effect = decided x a (active_at x.map a.place) }) (bid_made x a (bid_of a))) [
      | inl p ↦ ap (λ m. m.node.collection) p.1
      | inr p ↦ ap (λ m. m.node.collection) p.1 ∙ bid_leaves x a (bid_of a)
    ]

hear_question : {Q : Type 0} (x : NodeState Q) (j : ℕ) (k : Kind Q) → SameQuestion x.collection (heard_kind x j k).collection
unfolding heard_join heard_gossip
hear_question x j kind.Join = same_question x.collection x.collection refl
hear_question x j (kind.Gossip g) = after_question x.collection j g.heard

-- an advance leads to a second question, or to none
moved_stage : {Q : Type 0} (x : NodeState Q) (d : CollectionState) (move : GcMove) (g : CollectionState) → (collection_turned x d move).node.collection ≡ Some g → g.stage ≡ Second
unfolding collection_moved collection_ended
moved_stage x d Propagating g e = ap (λ g. g.stage) (sym (some_inj _ g e))
moved_stage x d Done g e = absurd (none-some g e)

module _ {Q : Type 0} (s : QuorumSystem Q) (founders : Q) (world : ℕ → WorldState Q) (all : Worlds s founders world) where
  -- what node n asks after moment m, and by which step
  data Asks (m n : ℕ) (p : Option CollectionState) : Type 0 where
    asks_still : SameQuestion (at s founders world all m n).collection p → Asks m n p
    asks_first : Happens s founders world all m (step.Collect n) → (g : CollectionState) → p ≡ Some g → g.stage ≡ First → Asks m n p
    asks_next : Happens s founders world all m (step.AdvanceCollect n) → ((g : CollectionState) → p ≡ Some g → g.stage ≡ Second) → Asks m n p

  abbrev AsksIn : ℕ → ℕ → WorldState Q → Type 0
  AsksIn m n w = Asks m n (seen_at s founders w n).collection

  idle : (m n : ℕ) → AsksIn m n (world m)
  idle m n = asks_still (same_question (seen_at s founders (world m) n).collection (seen_at s founders (world m) n).collection refl)

  -- a change of node k
  changed : (m n k : ℕ) (x : NodeState Q) (c : Act Q) → node_at (world m) k ≡ Some x → (n ≡ k → Asks m n (made_by x c).node.collection) → AsksIn m n (turn_by (world m) k (made_by x c)).world
  changed m n k x c e f =
      let put = seen_put s founders (world m) (turn_by (world m) k (made_by x c)).world k x (made_by x c).node e refl n in
      elim (pick (nat_eq n k) (made_by x c).node (seen_at s founders (world m) n)) [
        | inl q ↦ subst (λ y. Asks m n y.collection) (sym (put ∙ q.1)) (f (eqb-true n k q.0))
        | inr q ↦ subst (λ y. Asks m n y.collection) (sym (put ∙ q.1)) (idle m n)
      ]

  same_at : (m n k : ℕ) (x : NodeState Q) (p : Option CollectionState) → node_at (world m) k ≡ Some x → n ≡ k → SameQuestion x.collection p → Asks m n p
  same_at m n k x p e q h = asks_still (subst (λ x. SameQuestion x.collection p) (is_at s founders world all m k x e ∙ ap (at s founders world all m) (sym q)) h)

  quiet_at : (m n k : ℕ) (c : Act Q) → ((x : NodeState Q) → SameQuestion x.collection (made_by x c).node.collection) → (o : Option (NodeState Q)) → node_at (world m) k ≡ o → AsksIn m n (turn_at (world m) k o c).world
  quiet_at m n k c f None e = idle m n
  quiet_at m n k c f (Some x) e = changed m n k x c e (λ q. same_at m n k x _ e q (f x))

  leaves_at : (m n k : ℕ) (c : Act Q) → ((x : NodeState Q) → Leaves x (made_by x c)) → AsksIn m n (turn_at (world m) k (node_at (world m) k) c).world
  leaves_at m n k c f = quiet_at m n k c (λ x. same_question x.collection (made_by x c).node.collection (f x)) (node_at (world m) k) refl

  delivered : (m n : ℕ) (o : Option (LetterState Q)) → AsksIn m n (turn_of (world m) (delivery o)).world
  unfolding made_by
  delivered m n None = idle m n
  delivered m n (Some l) = quiet_at m n l.addressee (act.Hear l) (λ x. hear_question x l.sender l.kind) (node_at (world m) l.addressee) refl

  collect_at : (m n k : ℕ) → Happens s founders world all m (step.Collect k) → (o : Option (NodeState Q)) → node_at (world m) k ≡ o → AsksIn m n (turn_at (world m) k o (act.Quietly quiet.Collect)).world
  unfolding made_by collection_opened
  collect_at m n k d None e = idle m n
  collect_at m n k d (Some x) e = changed m n k x (act.Quietly quiet.Collect) e (λ q. asks_first (subst (λ k. Happens s founders world all m (step.Collect k)) (sym q) d) (opened x.map (x.number + 1) x.name) refl refl)

  turned_at : (m n k : ℕ) → Happens s founders world all m (step.AdvanceCollect k) → n ≡ k → (x : NodeState Q) → node_at (world m) k ≡ Some x → (o : Option CollectionState) → x.collection ≡ o
      → Asks m n (collection_advanced x o).node.collection
  turned_at m n k d q x e None i = same_at m n k x _ e q (same_question x.collection x.collection refl)
  turned_at m n k d q x e (Some g) i =
      asks_next (subst (λ k. Happens s founders world all m (step.AdvanceCollect k)) (sym q) d) (λ h j. moved_stage x g (collection_move x.map g) h j)

  advance_at : (m n k : ℕ) → Happens s founders world all m (step.AdvanceCollect k) → (o : Option (NodeState Q)) → node_at (world m) k ≡ o → AsksIn m n (turn_at (world m) k o (act.Quietly quiet.AdvanceCollect)).world
  unfolding made_by
  advance_at m n k d None e = idle m n
  advance_at m n k d (Some x) e = changed m n k x (act.Quietly quiet.AdvanceCollect) e (λ q. turned_at m n k d q x e x.collection refl)

  step_asks : (m n : ℕ) (st : Step Q) → Happens s founders world all m st → AsksIn m n (turn (world m) st).world
  unfolding turn made_by joined_by called attempt_opened stopped
  step_asks m n (step.Deliver i) d = delivered m n (letter_at (world m).letters i)
  step_asks m n (step.Advance id) d = leaves_at m n id.name (act.Advance id) (λ x. advance_leaves x id (open_call x id))
  step_asks m n (step.Again id) d = leaves_at m n id.name (act.Quietly (quiet.Again id)) (λ x. again_leaves x (open_call x id))
  step_asks m n (step.Collect k) d = collect_at m n k d (node_at (world m) k) refl
  step_asks m n (step.AdvanceCollect k) d = advance_at m n k d (node_at (world m) k) refl
  step_asks m n (step.Rebid k) d = leaves_at m n k (act.Quietly quiet.Rebid) (λ x. rebid_leaves x x.attempt)
  step_asks m n (step.AdvanceRecon k) d = leaves_at m n k (act.Quietly quiet.AdvanceRecon) (λ x. attempt_leaves x x.attempt)
  step_asks m n _ d = leaves_at m n _ _ (λ x. refl)

  asks : (m n : ℕ) → AsksIn m n (world (suc m))
  asks m n = elim (all.next m) [
    | inl e ↦ subst (AsksIn m n) (sym e) (idle m n)
    | inr t ↦ subst (AsksIn m n) (sym t.2) (step_asks m n t.0 (t.3, t.1))
  ]

  first≢second : First ≡ Second → ⊥
  first≢second e = cc

  -- a collection turns to its second question by an advance
  pub turned_by : (m n : ℕ) (g h : CollectionState) → (at s founders world all m n).collection ≡ Some g → g.stage ≡ First → (at s founders world all (suc m) n).collection ≡ Some h → h.stage ≡ Second
      → Happens s founders world all m (step.AdvanceCollect n)
  turned_by m n g h i a j b = elim (asks m n) [
    | asks_still q ↦ absurd (let r = q.asks h j in first≢second (sym a ∙ ap (λ g. g.stage) (some_inj g r.0 (sym i ∙ r.1)) ∙ sym r.2 ∙ b))
    | asks_next d f ↦ d
    | asks_first d k e f ↦ absurd (first≢second (sym f ∙ ap (λ g. g.stage) (some_inj k h (sym e ∙ j)) ∙ b))
  ]

  -- it ends by one
  pub ended_by : (m n : ℕ) (g : CollectionState) → (at s founders world all m n).collection ≡ Some g → (at s founders world all (suc m) n).collection ≡ None → Happens s founders world all m (step.AdvanceCollect n)
  ended_by m n g i j = elim (asks m n) [
    | asks_still q ↦ absurd (none-some g (sym (q.none j) ∙ i))
    | asks_next d f ↦ d
    | asks_first d k e f ↦ absurd (none-some k (sym j ∙ e))
  ]

  -- and it is opened by a Collect
  pub opened_by : (m n : ℕ) (h : CollectionState) → (at s founders world all (suc m) n).collection ≡ Some h → h.stage ≡ First → ((g : CollectionState) → (at s founders world all m n).collection ≡ Some g → g.number < h.number)
      → Happens s founders world all m (step.Collect n)
  opened_by m n h j a f = elim (asks m n) [
    | asks_still q ↦ absurd (let r = q.asks h j in omega (arith, f r.0 r.1, r.3))
    | asks_next d g ↦ absurd (first≢second (sym a ∙ g h j))
    | asks_first d k e b ↦ d
  ]
