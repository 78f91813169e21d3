-- The nodes of a run: there are 64, and each name has its node
use Rattle.std.proofs.Common.{◌≡◌, ℕ, zero, suc, ◌-◌, ◌≤◌, List, length, Option, Some, None, refl, sym, ap, ◌∙◌, inl, inr, arith, length-set}
use Rattle.rambo_names.specs.Quorums.{QuorumSystem}
use Rattle.rambo_node.specs.Acts.{Act, Meant}
use Rattle.rambo_node.specs.Nodes.{NodeState, first_node}
use Rattle.rambo_node.specs.Steps.{Step}
use Rattle.rambo_run.specs.Worlds.{WorldState, node_at, first_world}
use Rattle.rambo_run.specs.Steps.{meant, Turn, turn_at, turn_of, turn}
use Rattle.rambo_run.specs.Runs.{run}
use Rattle.rambo_run.proofs.Lists.{none-some, below_there, there_below}
use Rattle.rambo_run.proofs.Held.{names}
use Rattle.rambo_run.proofs.Seen.{node_or}
use Rattle.rambo_run.proofs.Sights.{Worlds, at}
use Rattle.rambo_run.proofs.FirstWorlds.{first_count}
use Rattle.rambo_run.proofs.Worlds.{run_of}
use Rattle.rambo_run.proofs.Moments.{moment, worlds, last_moment}

named_at : {Q : Type 0} (w : WorldState Q) (n : ℕ) → length w.nodes ≡ 64 → 1 ≤ n → n ≤ 64 → (x : NodeState Q) × (node_at w n ≡ Some x)
named_at w zero l a b = absurd (omega (arith, a))
named_at w (suc n) l a b = below_there w.nodes n (omega (arith, l, b))

at_named : {Q : Type 0} (w : WorldState Q) (n : ℕ) (x : NodeState Q) → length w.nodes ≡ 64 → node_at w n ≡ Some x → (1 ≤ n) × (n ≤ 64)
at_named w zero x l e = absurd (none-some x e)
at_named w (suc n) x l e = (omega arith, omega (arith, l, there_below w.nodes n x e))

-- no step makes or takes a node
abbrev SameCount : {Q : Type 0} → WorldState Q → Turn Q → Type 0
SameCount w t = length t.world.nodes ≡ length w.nodes

at_count : {Q : Type 0} (w : WorldState Q) (n : ℕ) (c : Act Q) (o : Option (NodeState Q)) → SameCount w (turn_at w n o c)
at_count w n c None = refl
at_count w n c (Some x) = length-set w.nodes (n - 1) _

of_count : {Q : Type 0} (w : WorldState Q) (o : Option (Meant Q)) → SameCount w (turn_of w o)
of_count w None = refl
of_count w (Some m) = at_count w m.name m.act (node_at w m.name)

turn_count : {Q : Type 0} (w : WorldState Q) (st : Step Q) → SameCount w (turn w st)
unfolding turn
turn_count w st = of_count w (meant w st)

module _ {Q : Type 0} (s : QuorumSystem Q) (founders : Q) (world : ℕ → WorldState Q) (all : Worlds s founders world) where
  pub count_at : (m : ℕ) → length (world m).nodes ≡ 64
  unfolding first_world
  count_at zero = ap (λ w. length w.nodes) all.first ∙ first_count s founders 64 1
  count_at (suc m) = elim (all.next m) [
    | inl e ↦ ap (λ w. length w.nodes) e ∙ count_at m
    | inr r ↦ ap (λ w. length w.nodes) r.2 ∙ turn_count (world m) r.0 ∙ count_at m
  ]

  pub node_is : (m n : ℕ) (x : NodeState Q) → node_at (world m) n ≡ Some x → x ≡ at s founders world all m n
  node_is m n x e = sym (ap (node_or (first_node s founders n)) e)

  -- a node that there is at one moment there is at each
  pub node_stays : (m u n : ℕ) (x : NodeState Q) → node_at (world m) n ≡ Some x → node_at (world u) n ≡ Some (at s founders world all u n)
  node_stays m u n x e =
      let r = at_named (world m) n x (count_at m) e in
      let y = named_at (world u) n (count_at u) r.0 r.1 in
      y.1 ∙ ap Some (node_is u n y.0 y.1)

  pub nowhere : (u n : ℕ) → node_at (world u) n ≡ None → at s founders world all u n ≡ first_node s founders n
  nowhere u n e = ap (node_or (first_node s founders n)) e

module _ {Q : Type 0} (s : QuorumSystem Q) (founders : Q) (ss : List (Step Q)) where
  -- a run has 64 nodes
  pub nodes_count : length (run s founders ss).nodes ≡ 64
  nodes_count = ap (λ w. length w.nodes) (sym (last_moment s founders ss)) ∙ count_at s founders (moment s founders ss) (worlds s founders ss) (length ss)

  -- the node of a name has the name
  pub node_named : (n : ℕ) (x : NodeState Q) → node_at (run s founders ss) n ≡ Some x → x.name ≡ n
  node_named n x e =
      let all = worlds s founders ss in
      let m : ℕ = length ss in
      let here : node_at (moment s founders ss m) n ≡ Some x = ap (λ w. node_at w n) (last_moment s founders ss) ∙ e in
      ap (λ x. x.name) (node_is s founders (moment s founders ss) all m n x here) ∙ names s founders (at s founders (moment s founders ss) all) (run_of s founders (moment s founders ss) all) m n
