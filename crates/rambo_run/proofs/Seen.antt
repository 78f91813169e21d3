-- What of a world the laws read: each node by its name, the history and the marks; and one step of it
use Rattle.std.proofs.Common.{◌≡◌, ℕ, zero, suc, ◌+◌, ◌-◌, ◌≤◌, ◌⊎◌, true, false, if◌then◌else◌, nat_eq, List, [], ◌∷◌, ◌++◌, Option, Some, None, slice_get, slice_set, refl, sym, ap, ◌∙◌, subst, inl, inr, ⊎_elim, arith, eqb-true}
use Rattle.std.proofs.lemmas.Bool.{eqb-false}
use Rattle.std.specs.FinMap as map
use Rattle.rambo_names.specs.Quorums.{QuorumSystem}
use Rattle.rambo_tag.specs.declared.version.Version.{Version}
use Rattle.rambo_tag.proofs.Joins.{get-joined}
use Rattle.rambo_tag.proofs.CopyOrder.{greater-either}
use Rattle.rambo_history.specs.declared.operation.Op.{Op}
use Rattle.rambo_history.specs.declared.event.Event.{Event}
use Rattle.rambo_history.specs.declared.event.Event.TheVariants as event
use Rattle.rambo_phase.specs.Phases.{is_met}
use Rattle.rambo_gossip.specs.Gossips.{GossipState}
use Rattle.rambo_calls.specs.Calls.{CallState, propagates, kept_in}
use Rattle.rambo_node.specs.Nodes.{NodeState, first_node}
use Rattle.rambo_calls.specs.Hearing.{heard_call}
use Rattle.rambo_node.specs.Hearing.{heard_gossip}
use Rattle.rambo_node.specs.Operations.{called, taken, query_answered, call_closed, answer_of, called_again}
use Rattle.rambo_sequence.specs.declared.mark.Mark.{Mark}
use Rattle.rambo_run.specs.Worlds.{WorldState, node_at}
use Rattle.rambo_run.proofs.Deeds.{id_of, with_set, with_get}
use Rattle.rambo_run.proofs.Lists.{pick, none-some, Member, member_map, member_put, Single, set_here, set_there}
use Rattle.rambo_run.proofs.Turn.{Moments, Telling, Turn}

pub record Seen (Q : Type 0) : Type 0 where
  pub node : ℕ → NodeState Q
  pub history : List Event
  pub marks : List Mark

abbrev pub node_or : {Q : Type 0} → NodeState Q → Option (NodeState Q) → NodeState Q
node_or x None = x
node_or x (Some y) = y

-- node n, or a first node where there is none
abbrev pub seen_at : {Q : Type 0} → QuorumSystem Q → Q → WorldState Q → ℕ → NodeState Q
seen_at s founders w n = node_or (first_node s founders n) (node_at w n)

abbrev pub seen : {Q : Type 0} → QuorumSystem Q → Q → WorldState Q → Seen Q
seen s founders w = record { node = seen_at s founders w; history = w.history; marks = w.marks }

abbrev pub with_seen : {Q : Type 0} → Seen Q → ℕ → NodeState Q → Seen Q
with_seen v n y = record v { node = λ k. if nat_eq k n then y else v.node k }

abbrev pub seen_called : {Q : Type 0} → Seen Q → ℕ → Op → Seen Q
seen_called v n o = record {
  node = λ k. if nat_eq k n then called (v.node n) o else v.node k;
  history = v.history ++ event.Call (id_of n ((v.node n).made + 1)) o ∷ [];
  marks = v.marks;
}

-- the mark of a call
abbrev pub mark_of : {Q : Type 0} → ℕ → CallState Q → Option Version → Mark
mark_of n c kept = record { id = id_of n c.number; op = c.op; kept = kept }

abbrev pub seen_queried : {Q : Type 0} → Seen Q → ℕ → CallState Q → Seen Q
seen_queried v n c = record {
  node = λ k. if nat_eq k n then query_answered (v.node n) c else v.node k;
  history = v.history;
  marks = with_set v.marks n c.number c.op (taken (v.node n) c.op);
}

abbrev pub seen_answered : {Q : Type 0} → Seen Q → ℕ → CallState Q → Seen Q
seen_answered v n c = record {
  node = λ k. if nat_eq k n then call_closed (v.node n) c else v.node k;
  history = v.history ++ event.Answer (id_of n c.number) (answer_of c.op (kept_in c.stage)) ∷ [];
  marks = with_get v.marks n c.number c.op (kept_in c.stage);
}

-- what a call is, but for its phase
pub record SameCall {Q : Type 0} (c d : CallState Q) : Type 0 where
  pub number : d.number ≡ c.number
  pub op : d.op ≡ c.op
  pub stage : d.stage ≡ c.stage

pub same_refl : {Q : Type 0} (c : CallState Q) → SameCall c c
same_refl c = record { number = refl; op = refl; stage = refl }

-- the open calls of y are those of x, but for their phases
pub record Keeps {Q : Type 0} (x y : NodeState Q) : Type 0 where
  pub made : y.made ≡ x.made
  pub kept : (d : CallState Q) → Member d y.calls → (c : CallState Q) × Member c x.calls × SameCall c d

pub keeps_same : {Q : Type 0} (x y : NodeState Q) → y.made ≡ x.made → y.calls ≡ x.calls → Keeps x y
keeps_same x y m e = record { made = m; kept = λ d i. (d, subst (Member d) e i, same_refl d) }

pub keeps_hear : {Q : Type 0} (x : NodeState Q) (j : ℕ) (g : GossipState Q) → Keeps x (heard_gossip x j g)
unfolding heard_gossip
keeps_hear x j g =
    let y = heard_gossip x j g in
    let f = heard_call g.heard j g.map y.number y.map x.name in
    record {
      made = refl;
      kept = λ d i. let r = member_map f d x.calls i in (r.0, r.1, subst (SameCall r.0) r.2 (record { number = refl; op = refl; stage = refl }));
    }

pub keeps_again : {Q : Type 0} (x : NodeState Q) (c : CallState Q) → Single x.calls → Member c x.calls → Keeps x (called_again x c)
unfolding called_again
keeps_again x c s i = record {
  made = refl;
  kept = λ d k. elim (member_put c.number _ d x.calls s k) [
    | inl m ↦ (d, m.0, same_refl d)
    | inr r ↦ (c, i, subst (SameCall c) r (record { number = refl; op = refl; stage = refl }))
  ];
}

-- where the copies of y come from, but for a set's own one
abbrev pub CopiesFrom : {Q : Type 0} → Moments Q → ℕ → NodeState Q → NodeState Q → Type 0
CopiesFrom at m x y = (key : List ℕ) → (map.get y.registers key ≡ map.get x.registers key) ⊎ ((u : ℕ) × (j : ℕ) × (u ≤ m) × (map.get y.registers key ≡ map.get (at u j).registers key))

pub copies_same : {Q : Type 0} (at : Moments Q) (m : ℕ) (x y : NodeState Q) → y.registers ≡ x.registers → CopiesFrom at m x y
copies_same at m x y e key = inl (ap (λ r. map.get r key) e)

pub copies_heard : {Q : Type 0} (at : Moments Q) (m u j i : ℕ) (x : NodeState Q) (g : GossipState Q) → u ≤ m → g.copies ≡ (at u j).registers → CopiesFrom at m x (heard_gossip x i g)
unfolding heard_gossip
copies_heard at m u j i x g h e key = ⊎_elim
    (λ l. inl (get-joined x.registers g.copies key ∙ l))
    (λ r. inr (u, j, h, get-joined x.registers g.copies key ∙ r ∙ ap (λ c. map.get c key) e))
    (greater-either (map.get x.registers key) (map.get g.copies key))

-- one step of the world
pub data WorldTurn {Q : Type 0} (s : QuorumSystem Q) (T : Telling) (at : Moments Q) (m : ℕ) (v z : Seen Q) : Type 0 where
  t_still : z ≡ v → WorldTurn s T at m v z
  t_node : (n : ℕ) (y : NodeState Q) → Turn s T at m n (v.node n) y → Keeps (v.node n) y → CopiesFrom at m (v.node n) y → z ≡ with_seen v n y → WorldTurn s T at m v z
  t_calls : (n : ℕ) (o : Op) → z ≡ seen_called v n o → WorldTurn s T at m v z
  t_queries : (n : ℕ) (c : CallState Q) → Member c (v.node n).calls → propagates c.stage ≡ false → is_met s c.phase ≡ true → z ≡ seen_queried v n c → WorldTurn s T at m v z
  t_answers : (n : ℕ) (c : CallState Q) → Member c (v.node n).calls → propagates c.stage ≡ true → is_met s c.phase ≡ true → z ≡ seen_answered v n c → WorldTurn s T at m v z

pub named_some : {Q : Type 0} (w : WorldState Q) (n : ℕ) (x : NodeState Q) → node_at w n ≡ Some x → 1 ≤ n
named_some w zero x e = absurd (none-some x e)
named_some w (suc n) x e = omega arith

-- a world with one node in another's place
pub seen_put : {Q : Type 0} (s : QuorumSystem Q) (founders : Q) (w z : WorldState Q) (n : ℕ) (x y : NodeState Q) → node_at w n ≡ Some x → z.nodes ≡ slice_set w.nodes (n - 1) y
    → (k : ℕ) → seen_at s founders z k ≡ (if nat_eq k n then y else seen_at s founders w k)
seen_put s founders w z zero x y h e k = absurd (none-some x h)
seen_put s founders w z (suc n) x y h e zero = elim (pick (nat_eq zero (suc n)) y (seen_at s founders w zero)) [
  | inl p ↦ absurd (let q : 0 ≡ suc n = eqb-true zero (suc n) p.0 in omega (arith, q))
  | inr p ↦ sym p.1
]
seen_put s founders w z (suc n) x y h e (suc k) =
    let i : suc n - 1 ≡ n = omega arith in
    let nodes : z.nodes ≡ slice_set w.nodes n y = e ∙ ap (λ i. slice_set w.nodes i y) i in
    elim (pick (nat_eq (suc k) (suc n)) y (seen_at s founders w (suc k))) [
      | inl p ↦ (let q : suc k ≡ suc n = eqb-true (suc k) (suc n) p.0 in let r : k ≡ n = omega (arith, q) in
          ap (node_or (first_node s founders (suc k))) (ap (λ l. slice_get l k) nodes ∙ ap (slice_get (slice_set w.nodes n y)) r ∙ set_here w.nodes n x y h) ∙ sym p.1)
      | inr p ↦ ap (node_or (first_node s founders (suc k))) (ap (λ l. slice_get l k) nodes ∙ set_there w.nodes n k y (λ r. eqb-false (suc k) (suc n) p.0 (ap suc r))) ∙ sym p.1
    ]
