-- Each node of a run is the replay of its own changes
use Rattle.std.proofs.Common.{◌≡◌, ℕ, zero, suc, ◌-◌, nat_eq, List, [], ◌∷◌, Option, Some, None, slice_get, slice_set, refl, sym, ap, ◌∙◌, inl, inr, arith, eqb-true}
use Rattle.std.proofs.lemmas.Bool.{eqb-false}
use Rattle.rambo_names.specs.declared.refusal.Refusal.{Refusal}
use Rattle.rambo_names.specs.Quorums.{QuorumSystem}
use Rattle.rambo_node.specs.Acts.{Act, Meant}
use Rattle.rambo_node.specs.Changes.{made_by, replayed}
use Rattle.rambo_node.specs.Nodes.{NodeState, first_node}
use Rattle.rambo_node.specs.Steps.{Step}
use Rattle.rambo_run.specs.Worlds.{WorldState, node_at, first_world}
use Rattle.rambo_run.specs.Steps.{meant, refusal, turn_at, turn_of, turn}
use Rattle.rambo_run.specs.Runs.{unless_refused, after, run_from, run}
use Rattle.rambo_run.specs.Journals.{entered, entered_unless, journal_from, journal, NodesAreReplayed}
use Rattle.rambo_run.proofs.Lists.{pick, some_inj, none-some, set_here, set_there}
use Rattle.rambo_run.proofs.FirstWorlds.{first_named}

-- node n is x, and after some of the changes y, from which the rest is replayed
abbrev Replayed : {Q : Type 0} → WorldState Q → ℕ → NodeState Q → List (Act Q) → List (Act Q) → Type 0
Replayed {Q} z n x all rest = (y : NodeState Q) × (node_at z n ≡ Some y) × (replayed y rest ≡ replayed x all)

-- another node's place is another
other_stays : {Q : Type 0} (w z : WorldState Q) (k n : ℕ) (x y : NodeState Q) → (k ≡ n → ⊥) → node_at w k ≡ Some x → z.nodes ≡ slice_set w.nodes (k - 1) y → node_at z n ≡ node_at w n
other_stays w z zero n x y d h e = absurd (none-some x h)
other_stays w z (suc k) zero x y d h e = refl
other_stays w z (suc k) (suc n) x y d h e =
    let i : suc k - 1 ≡ k = omega arith in
    ap (λ l. slice_get l n) (e ∙ ap (λ i. slice_set w.nodes i y) i) ∙ set_there w.nodes k n y (λ r. d (ap suc (sym r)))

pub own_put : {Q : Type 0} (w z : WorldState Q) (n : ℕ) (x y : NodeState Q) → node_at w n ≡ Some x → z.nodes ≡ slice_set w.nodes (n - 1) y → node_at z n ≡ Some y
own_put w z zero x y h e = absurd (none-some x h)
own_put w z (suc n) x y h e =
    let i : suc n - 1 ≡ n = omega arith in
    ap (λ l. slice_get l n) (e ∙ ap (λ i. slice_set w.nodes i y) i) ∙ set_here w.nodes n x y h

-- a change of node k
changed_at : {Q : Type 0} (w : WorldState Q) (k n : ℕ) (x : NodeState Q) (c : Act Q) (rest : List (Act Q)) → node_at w n ≡ Some x → (o : Option (NodeState Q)) → node_at w k ≡ o
    → Replayed (turn_at w k o c).world n x (entered n (Some (record { name = k; act = c })) rest) rest
changed_at w k n x c rest h None e = elim (pick (nat_eq k n) (c ∷ rest) rest) [
  | inl p ↦ absurd (none-some x (sym e ∙ ap (node_at w) (eqb-true k n p.0) ∙ h))
  | inr p ↦ (x, h, sym (ap (replayed x) p.1))
]
changed_at w k n x c rest h (Some a) e = elim (pick (nat_eq k n) (c ∷ rest) rest) [
  | inl p ↦ (
      let same : k ≡ n = eqb-true k n p.0 in
      let is : a ≡ x = some_inj a x (sym e ∙ ap (node_at w) same ∙ h) in
      let z = (turn_at w k (Some a) c).world in
      ((made_by a c).node, own_put w z n x (made_by a c).node h (ap (λ k. slice_set w.nodes (k - 1) (made_by a c).node) same), ap (λ a. replayed (made_by a c).node rest) is ∙ sym (ap (replayed x) p.1))
      )
  | inr p ↦ (x, other_stays w (turn_at w k (Some a) c).world k n a (made_by a c).node (eqb-false k n p.0) e refl ∙ h, sym (ap (replayed x) p.1))
]

-- a step
step_replayed : {Q : Type 0} (w : WorldState Q) (n : ℕ) (x : NodeState Q) (r : Option Refusal) (m : Option (Meant Q)) (rest : List (Act Q)) → node_at w n ≡ Some x
    → Replayed (unless_refused r w (turn_of w m).world) n x (entered_unless r n m rest) rest
step_replayed w n x None None rest h = (x, h, refl)
step_replayed w n x None (Some m) rest h = changed_at w m.name n x m.act rest h (node_at w m.name) refl
step_replayed w n x (Some r) m rest h = (x, h, refl)

replays_from : {Q : Type 0} (s : QuorumSystem Q) (n : ℕ) (sts : List (Step Q)) (w : WorldState Q) (x : NodeState Q) → node_at w n ≡ Some x → node_at (run_from s w sts) n ≡ Some (replayed x (journal_from s w n sts))
unfolding run_from journal_from after turn
replays_from s n [] w x h = h
replays_from s n (st ∷ sts) w x h =
    let r = step_replayed w n x (refusal s w st) (meant w st) (journal_from s (after s w st) n sts) h in
    replays_from s n sts (after s w st) r.0 r.1 ∙ ap Some r.2

pub replays : {Q : Type 0} (s : QuorumSystem Q) → NodesAreReplayed s
unfolding run journal
replays s founders steps n h = replays_from s n steps (first_world s founders) (first_node s founders n) (first_named s founders n h)
