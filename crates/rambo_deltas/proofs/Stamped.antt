-- Each stamp is the phase number before the step that last changed its copy
use Rattle.std.proofs.Common.{◌≡◌, ◌≢◌, ◌⊎◌, ℕ, zero, suc, ◌<◌, ◌≤◌, true, false, if◌then◌else◌, nat_eq, List, [], ◌∷◌, ◌++◌, length, take, Option, Some, None, slice_get, refl, sym, ap, ◌∙◌, subst, inl, inr, arith}
use Rattle.std.specs.Ordering.{nat_cmp}
use Rattle.std.specs.Cmp.Lexicographic.{slice_cmp}
use Rattle.std.proofs.lemmas.Bool.{cases_lt}
use Rattle.std.specs.FinMap as map
use Rattle.rambo_names.specs.declared.refusal.Refusal.{Refusal}
use Rattle.rambo_names.specs.Names.{IsName}
use Rattle.rambo_names.specs.Quorums.{QuorumSystem}
use Rattle.rambo_tag.specs.declared.version.Version.{Version}
use Rattle.rambo_node.specs.Acts.{Act, Meant}
use Rattle.rambo_node.specs.Changes.{replayed}
use Rattle.rambo_node.specs.Nodes.{NodeState, first_node}
use Rattle.rambo_node.specs.Steps.{Step}
use Rattle.rambo_run.specs.Worlds.{WorldState, node_at, first_world}
use Rattle.rambo_run.specs.Steps.{meant, refusal}
use Rattle.rambo_run.specs.Runs.{after, run_from, run}
use Rattle.rambo_run.specs.Journals.{entered, entered_unless, journal_from, journal}
use Rattle.rambo_run.proofs.Lists.{pick, some_inj, none-some, below_there}
use Rattle.rambo_run.proofs.Moments.{take_all}
use Rattle.rambo_run.proofs.Replays.{replays}
use Rattle.rambo_node.specs.FullNodes.{FullNode, full_after, fully_replayed, first_full}
use Rattle.rambo_deltas.specs.Deltas.{full_at, FullNodesAreNodes, StampsAreNumbers}
use Rattle.rambo_deltas.proofs.Touches.{Touches, touches}

-- ---- a full node is a node
state_of : {Q : Type 0} (v : FullNode Q) (cs : List (Act Q)) → (fully_replayed v cs).state ≡ replayed v.state cs
unfolding full_after
state_of v [] = refl
state_of v (c ∷ cs) = state_of (full_after v c) cs

pub full_nodes_are_nodes : {Q : Type 0} (s : QuorumSystem Q) → FullNodesAreNodes s
unfolding full_at
full_nodes_are_nodes s founders steps n h = replays s founders steps n h ∙ ap Some (sym (state_of (first_full s founders n) (journal s founders n steps)))

-- ---- one step more
pub entered-more : {Q : Type 0} (n : ℕ) (m : Option (Meant Q)) (xs ys : List (Act Q)) → entered n m (xs ++ ys) ≡ entered n m xs ++ ys
entered-more n None xs ys = refl
entered-more n (Some m) xs ys = elim (nat_eq m.name n) as (λ t. (if t then m.act ∷ (xs ++ ys) else xs ++ ys) ≡ (if t then m.act ∷ xs else xs) ++ ys) [ true ↦ refl | false ↦ refl ]

pub unless-more : {Q : Type 0} (r : Option Refusal) (n : ℕ) (m : Option (Meant Q)) (xs ys : List (Act Q)) → entered_unless r n m (xs ++ ys) ≡ entered_unless r n m xs ++ ys
unless-more None n m xs ys = entered-more n m xs ys
unless-more (Some f) n m xs ys = refl

-- what the step after i steps enters
abbrev entry : {Q : Type 0} → QuorumSystem Q → WorldState Q → ℕ → Step Q → List (Act Q)
entry s w n st = entered_unless (refusal s w st) n (meant w st) []

journal-next : {Q : Type 0} (s : QuorumSystem Q) (n : ℕ) (sts : List (Step Q)) (w : WorldState Q) (i : ℕ) (st : Step Q) → slice_get sts i ≡ Some st
    → journal_from s w n (take (suc i) sts) ≡ journal_from s w n (take i sts) ++ entry s (run_from s w (take i sts)) n st
unfolding journal_from run_from
journal-next s n [] w i st e = absurd (none-some st e)
journal-next s n (t ∷ sts) w zero st e = ap (λ st. entry s w n st) (some_inj t st e)
journal-next s n (t ∷ sts) w (suc i) st e =
    ap (entered_unless (refusal s w t) n (meant w t)) (journal-next s n sts (after s w t) i st e)
    ∙ unless-more (refusal s w t) n (meant w t) (journal_from s (after s w t) n (take i sts)) (entry s (run_from s (after s w t) (take i sts)) n st)

one_or_none : {Q : Type 0} (r : Option Refusal) (n : ℕ) (m : Option (Meant Q)) → (entered_unless r n m [] ≡ []) ⊎ ((c : Act Q) × (entered_unless r n m [] ≡ c ∷ []))
one_or_none None n None = inl refl
one_or_none None n (Some m) = elim (pick (nat_eq m.name n) (m.act ∷ []) []) [ inl p ↦ inr (m.act, p.1) | inr p ↦ inl p.1 ]
one_or_none (Some f) n m = inl refl

pub replayed-more : {Q : Type 0} (v : FullNode Q) (xs ys : List (Act Q)) → fully_replayed v (xs ++ ys) ≡ fully_replayed (fully_replayed v xs) ys
replayed-more v [] ys = refl
replayed-more v (x ∷ xs) ys = replayed-more (full_after v x) xs ys

module _ {Q : Type 0} (s : QuorumSystem Q) (founders : Q) (steps : List (Step Q)) (n : ℕ) (named : IsName n) where
  abbrev V : ℕ → FullNode Q
  V i = full_at s founders (take i steps) n

  node_V : (i : ℕ) → node_at (run s founders (take i steps)) n ≡ Some (V i).state
  node_V i = full_nodes_are_nodes s founders (take i steps) n named

  next_V : (i : ℕ) → i < length steps → (V (suc i) ≡ V i) ⊎ ((c : Act Q) × (V (suc i) ≡ full_after (V i) c))
  unfolding full_at journal
  next_V i low =
      let st = below_there steps i low in
      let first = first_full s founders n in
      let w = first_world s founders in
      let new = entry s (run_from s w (take i steps)) n st.0 in
      let whole : V (suc i) ≡ fully_replayed (V i) new =
      ap (fully_replayed first) (journal-next s n steps w i st.0 st.1) ∙ replayed-more first (journal_from s w n (take i steps)) new in
      elim (one_or_none (refusal s (run_from s w (take i steps)) st.0) n (meant (run_from s w (take i steps)) st.0)) [
        | inl e ↦ inl (whole ∙ ap (fully_replayed (V i)) e)
        | inr e ↦ inr (e.0, whole ∙ ap (fully_replayed (V i)) e.1)
      ]

  -- among the first i steps the step after m was the last that changed the key
  record LastAt (i : ℕ) (key : List ℕ) (v : Version) (m : ℕ) : Type 0 where
    within : m < i
    differs : map.get (V m).state.registers key ≢ Some v
    since : (k : ℕ) → m < k → k ≤ i → map.get (V k).state.registers key ≡ Some v
    stamp : map.get (V i).stamps key ≡ Some (V m).state.number

  still : (i : ℕ) (key : List ℕ) (v : Version) (m : ℕ) → LastAt i key v m → map.get (V (suc i)).state.registers key ≡ Some v → map.get (V (suc i)).stamps key ≡ map.get (V i).stamps key → LastAt (suc i) key v m
  still i key v m l e f = record {
    within = omega (arith, l.within);
    differs = l.differs;
    since = λ k a b. elim (cases_lt i k) [
      | inl lt ↦ (let same : k ≡ suc i = omega arith in subst (λ k. map.get (V k).state.registers key ≡ Some v) (sym same) e)
      | inr le ↦ l.since k a le
    ];
    stamp = f ∙ l.stamp;
  }

  now_changed : (i : ℕ) (key : List ℕ) (v : Version) → map.get (V (suc i)).state.registers key ≡ Some v → map.get (V i).state.registers key ≢ Some v → map.get (V (suc i)).stamps key ≡ Some (V i).state.number → LastAt (suc i) key v i
  now_changed i key v e d f = record {
    within = omega arith;
    differs = d;
    since = λ k a b. let same : k ≡ suc i = omega arith in subst (λ k. map.get (V k).state.registers key ≡ Some v) (sym same) e;
    stamp = f;
  }

  effect_at : (i : ℕ) → i < length steps → (key : List ℕ) → Touches (V i).state (V i).stamps (V (suc i)).state (V (suc i)).stamps key
  unfolding full_after
  effect_at i low key = elim (next_V i low) [
    | inl e ↦ subst (λ (v : FullNode Q). Touches (V i).state (V i).stamps v.state v.stamps key) (sym e) (inl (refl, refl))
    | inr r ↦ subst (λ (v : FullNode Q). Touches (V i).state (V i).stamps v.state v.stamps key) (sym r.1) (touches (V i).state (V i).stamps r.0 key)
  ]

  last_change : (i : ℕ) → i ≤ length steps → (key : List ℕ) (v : Version) → map.get (V i).state.registers key ≡ Some v → (m : ℕ) × LastAt i key v m
  unfolding full_at journal journal_from first_node
  last_change zero low key v e = absurd (none-some v (sym (map.get-empty (slice_cmp nat_cmp) key) ∙ e))
  last_change (suc i) low key v e = elim (effect_at i (omega arith) key) [
    | inl same ↦ (let l = last_change i (omega arith) key v (sym same.0 ∙ e) in (l.0, still i key v l.0 l.1 e same.1))
    | inr new ↦ (i, now_changed i key v e (λ f. new.0 (e ∙ sym f)) new.1)
  ]

pub stamps_are_numbers : {Q : Type 0} (s : QuorumSystem Q) → StampsAreNumbers s
stamps_are_numbers {Q} s founders steps n key v named e =
    let M : ℕ = length steps in
    let whole : full_at s founders (take M steps) n ≡ full_at s founders steps n = ap (λ l. full_at s founders l n) (take_all steps) in
    let l = last_change s founders steps n named M (omega arith) key v (ap (λ (v : FullNode Q). map.get v.state.registers key) whole ∙ e) in (
      l.0,
      (full_at s founders (take l.0 steps) n).state,
      record {
        within = l.1.within;
        before = node_V s founders steps n named l.0;
        differs = l.1.differs;
        since = λ k y a b f.
            let is : (full_at s founders (take k steps) n).state ≡ y = some_inj _ _ (sym (node_V s founders steps n named k) ∙ f) in
            ap (λ (y : NodeState Q). map.get y.registers key) (sym is) ∙ l.1.since k a b;
      },
      ap (λ (v : FullNode Q). map.get v.stamps key) (sym whole) ∙ l.1.stamp,
    )
