-- Of the collections of a removed place one ended first, and what such ones carry never falls
use Rattle.std.proofs.Common.{◌≡◌, ℕ, zero, suc, ◌+◌, ◌<◌, ◌≤◌, ◌⊎◌, Bool, true, false, nat_lt, ◌||◌, List, [], ◌∷◌, Some, slice_get, refl, sym, ap, ◌∙◌, subst, inl, inr, ⊎_elim, arith, ltb-true, lt-ltb, true≢false, eq-or-lt_of_le}
use Rattle.std.proofs.lemmas.Bool.{cases_lt}
use Rattle.std.specs.List.{list_any}
use Rattle.rambo_names.specs.Quorums.{QuorumSystem, IsSound}
use Rattle.rambo_config_map.specs.Maps.{MapState, without_lowest}
use Rattle.rambo_gc.specs.declared.gc_move.GcMove.TheVariants.{Done}
use Rattle.rambo_gc.specs.declared.stage.Stage.TheVariants.{Second}
use Rattle.rambo_gc.specs.Collections.{CollectionState, next_move}
use Rattle.rambo_node.specs.Changes.{alone, quieted, collection_turned, collection_advanced, made_by}
use Rattle.rambo_node.specs.Nodes.{NodeState}
use Rattle.rambo_node.specs.Reconfigurations.{collection_move, collection_ended}
use Rattle.rambo_node.specs.Acts as act
use Rattle.rambo_node.specs.declared.prepared.Quiet.TheVariants as quiet
use Rattle.rambo_node.specs.Steps.{Step}
use Rattle.rambo_node.specs.declared.step.StepOf.TheVariants as step
use Rattle.rambo_run.specs.Worlds.{WorldState, node_at}
use Rattle.rambo_run.specs.Steps.{turn_by, turn_at, turn}
use Rattle.rambo_run.specs.Claims.{AtLeast}
use Rattle.rambo_run.specs.Configurations.{IsCollected, EndedFirst, FirstCollectionsAre, FirstCollectionsNeverFall}
use Rattle.rambo_run.proofs.Lists.{pick, some_inj, none-some}
use Rattle.rambo_run.proofs.Phases.{or_second}
use Rattle.rambo_run.proofs.Moments.{moment}
use Rattle.rambo_run.proofs.Replays.{own_put}
use Rattle.rambo_run.proofs.Decisions.{next_world}
use Rattle.rambo_run.proofs.CollectionClaims.{removed_by, carries, over}

-- the first place where a test passes, up to one where it does
record First (P : ℕ → Bool) (m : ℕ) : Type 0 where
  pub moment : ℕ
  pub before : moment ≤ m
  pub passes : P moment ≡ true
  pub first : (u : ℕ) → P u ≡ true → moment ≤ u

-- one up to here, or none so far
first_to : (P : ℕ → Bool) (m : ℕ) → First P m ⊎ ((u : ℕ) → u ≤ m → P u ≡ true → ⊥)
first_to P m = up m
  where
    -- the test at the next place, where none passed before
    tested : (m : ℕ) (b : Bool) → P m ≡ b → ((u : ℕ) → u < m → P u ≡ true → ⊥) → First P m ⊎ ((u : ℕ) → u ≤ m → P u ≡ true → ⊥)
    tested m true e f = inl (record { moment = m; before = omega arith; passes = e; first = λ u i. elim (cases_lt u m) [ inl l ↦ absurd (f u l i) | inr l ↦ l ] })
    tested m false e f = inr (λ u l i. ⊎_elim (λ q. true≢false (sym (subst (λ u. P u ≡ true) q i) ∙ e)) (λ l. f u l i) (eq-or-lt_of_le l))

    up : (m : ℕ) → First P m ⊎ ((u : ℕ) → u ≤ m → P u ≡ true → ⊥)
    up zero = tested zero (P zero) refl (λ u l i. omega (arith, l))
    up (suc m) = elim (up m) [
      | inl f ↦ inl (record { moment = f.moment; before = omega (arith, f.before); passes = f.passes; first = f.first })
      | inr f ↦ tested (suc m) (P (suc m)) refl (λ u l i. f u (omega (arith, l)) i)
    ]

first_of : (P : ℕ → Bool) (m : ℕ) → P m ≡ true → First P m
first_of P m e = elim (first_to P m) [ inl f ↦ f | inr f ↦ absurd (f m (omega arith) e) ]

or_right : (a b : Bool) → b ≡ true → (a || b) ≡ true
or_right true b e = refl
or_right false b e = e

module _ {Q : Type 0} (p : ℕ) where
  -- a node has removed place p
  abbrev has_removed : NodeState Q → Bool
  has_removed x = nat_lt p x.map.floor

  any_there : (xs : List (NodeState Q)) → list_any has_removed xs ≡ true → (i : ℕ) × (x : NodeState Q) × (slice_get xs i ≡ Some x) × (p < x.map.floor)
  any_there [] e = absurd (true≢false (sym e))
  any_there (x ∷ xs) e = elim (pick (has_removed x) zero zero) [
    | inl q ↦ (zero, x, refl, ltb-true p x.map.floor q.0)
    | inr q ↦ (let r = any_there xs (or_second (has_removed x) (list_any has_removed xs) q.0 e) in (suc r.0, r.1, r.2, r.3))
  ]

  there_any : (xs : List (NodeState Q)) (i : ℕ) (x : NodeState Q) → slice_get xs i ≡ Some x → p < x.map.floor → list_any has_removed xs ≡ true
  there_any [] i x e l = absurd (none-some x e)
  there_any (y ∷ xs) zero x e l = ap (λ b. b || list_any has_removed xs) (ap has_removed (some_inj y x e) ∙ lt-ltb p x.map.floor l)
  there_any (y ∷ xs) (suc i) x e l = or_right (has_removed y) (list_any has_removed xs) (there_any xs i x e l)

  pub removed_there : (w : WorldState Q) (n : ℕ) (x : NodeState Q) → node_at w n ≡ Some x → p < x.map.floor → list_any has_removed w.nodes ≡ true
  removed_there w zero x e l = absurd (none-some x e)
  removed_there w (suc i) x e l = there_any w.nodes i x e l

  pub there_removed : (w : WorldState Q) → list_any has_removed w.nodes ≡ true → (n : ℕ) × (x : NodeState Q) × (node_at w n ≡ Some x) × (p < x.map.floor)
  there_removed w e = let r = any_there w.nodes e in (suc r.0, r.1, r.2, r.3)

second_done : {Q : Type 0} (m : MapState Q) (g : CollectionState) → g.stage ≡ Second → collection_move m g ≡ Done
second_done m g e = elim (pick (nat_lt g.place m.floor) Done (next_move g.stage)) [ inl q ↦ q.1 | inr q ↦ q.1 ∙ ap next_move e ]

ended_floor : {Q : Type 0} (x : NodeState Q) (g : CollectionState) → x.map.floor ≤ g.place → (collection_ended x g).map.floor ≡ x.map.floor + 1
unfolding collection_ended
ended_floor x g h = elim (pick (nat_lt g.place x.map.floor) x.map (without_lowest x.map)) [
  | inl q ↦ absurd (let l = ltb-true g.place x.map.floor q.0 in omega (arith, l, h))
  | inr q ↦ ap (λ m. m.floor) q.1
]

module _ {Q : Type 0} (s : QuorumSystem Q) (founders : Q) (ss : List (Step Q)) where
  abbrev world : ℕ → WorldState Q
  world m = moment s founders ss m

  -- by the step that ends a collection its node removes the place
  ended_removed : (until p : ℕ) (g : IsCollected s founders ss until p) → (x : NodeState Q) × (node_at (world (g.ended + 1)) g.node ≡ Some x) × (p < x.map.floor)
  unfolding turn made_by
  ended_removed until p g =
      let w = world g.ended in
      let x = g.ender in
      let last = g.second in
      let made : quieted x quiet.AdvanceCollect ≡ collection_turned x last Done = ap (collection_advanced x) g.second_open ∙ ap (collection_turned x last) (second_done x.map last g.second_quorum.stage) in (
        collection_ended x last,
        ap (λ w. node_at w g.node) (next_world s founders ss g.ended (step.AdvanceCollect g.node) g.ends.0 g.ends.1 ∙ ap (λ o. (turn_at w g.node o (act.Quietly quiet.AdvanceCollect)).world) g.ender_is ∙ ap (λ made. (turn_by w g.node (alone made.node)).world) made)
            ∙ own_put w (turn_by w g.node (alone (collection_turned x last Done).node)).world g.node x (collection_ended x last) g.ender_is refl,
        (let floor = ended_floor x last g.second_quorum.kept in omega (arith, floor, g.still_lowest)),
      )

  -- more steps pass
  longer : (until m p : ℕ) → until ≤ m → IsCollected s founders ss until p → IsCollected s founders ss m p
  longer until m p l g = record {
    node = g.node;
    began = g.began;
    opened = g.opened;
    turned = g.turned;
    ended = g.ended;
    opens = g.opens;
    next_opened = g.next_opened;
    order = g.order;
    turns = g.turns;
    later = g.later;
    ends = g.ends;
    before = omega (arith, g.before, l);
    opener = g.opener;
    opener_is = g.opener_is;
    lowest = g.lowest;
    next = g.next;
    turner = g.turner;
    turner_is = g.turner_is;
    first = g.first;
    first_begun = g.first_begun;
    first_open = g.first_open;
    first_place = g.first_place;
    first_number = g.first_number;
    first_quorum = g.first_quorum;
    first_told = g.first_told;
    asker = g.asker;
    asker_is = g.asker_is;
    ender = g.ender;
    ender_is = g.ender_is;
    second = g.second;
    second_begun = g.second_begun;
    second_open = g.second_open;
    second_place = g.second_place;
    second_quorum = g.second_quorum;
    second_told = g.second_told;
    still_lowest = g.still_lowest;
  }

  -- of the collections of a removed place the one that ended first ended in the step by which the place was removed first
  pub first_ended : (m n : ℕ) (x : NodeState Q) → node_at (world m) n ≡ Some x → (p : ℕ) → p < x.map.floor → (g : IsCollected s founders ss m p) × (g.ended < m) × EndedFirst s founders ss m p g
  unfolding longer
  first_ended m n x e p h =
      let f = first_of (λ u. list_any (has_removed p) (world u).nodes) m (removed_there p (world m) n x e h) in
      let r = there_removed p (world f.moment) f.passes in
      let o = removed_by s founders ss f.moment r.0 r.1 r.2 p r.3 in (
        longer f.moment m p f.before o.0,
        omega (arith, o.1, f.before),
        λ u g. (let t = ended_removed u p g in
            let after : f.moment ≤ g.ended + 1 = f.first (g.ended + 1) (removed_there p (world (g.ended + 1)) g.node t.0 t.1 t.2) in
            omega (arith, o.1, after)),
      )

  pub first_carries : IsSound s → (until p : ℕ) (g : IsCollected s founders ss until p) → EndedFirst s founders ss until p g → (u : ℕ) (h : IsCollected s founders ss u (p + 1)) → (g.ended < h.began) × AtLeast g.turner h.turner
  first_carries law until p g first u h =
      let o = removed_by s founders ss h.opened h.node h.opener h.opener_is p (omega (arith, h.lowest)) in
      let before : g.ended < h.opened = (let l = first h.opened o.0 in omega (arith, l, o.1)) in
      (over s founders ss until u p (p + 1) g h before, carries s founders ss law until u p g h (omega (arith, before)))

-- of the collections of a removed place one ended first
pub first_collections_are : {Q : Type 0} (s : QuorumSystem Q) → FirstCollectionsAre s
first_collections_are s founders ss m n x e p h = first_ended s founders ss m n x e p h

-- and what those carry never falls from place to place
pub first_collections_never_fall : {Q : Type 0} (s : QuorumSystem Q) → IsSound s → FirstCollectionsNeverFall s
first_collections_never_fall s law founders ss until p g first u h = first_carries s founders ss law until p g first u h
