-- Nodes that are there
use Rattle.std.proofs.Common.{◌≡◌, ℕ, zero, suc, ◌≤◌, ◌<◌, List, length, Some, slice_get, ap, inl, inr, arith}
use Rattle.std.specs.Option.{is_some}
use Rattle.std.proofs.lemmas.Bool.{false≢true}
use Rattle.std.proofs.lemmas.Option.{slice_get_cases}
use Rattle.rambo_node.specs.Nodes.{NodeState}
use Rattle.rambo_world.specs.Kept.{KeptNode, state_at}

-- a list has an item at each place below its length
pub item : {X : Type 0} (xs : List X) (i : ℕ) → i < length xs → (x : X) × (slice_get xs i ≡ Some x)
item xs i below =
    elim ((slice_get_cases xs i).1) [
      | inl h ↦ (h.0, h.2)
      | inr h ↦ let past : length xs ≤ i = h.0 in absurd (omega (arith, below, past))
    ]

-- a node that is there has a name
pub named_there : {Q : Type 0} (ks : List (KeptNode Q)) (n : ℕ) (x : NodeState Q) → state_at ks n ≡ Some x → 1 ≤ n
named_there ks zero x e = absurd (false≢true (ap is_some e))
named_there ks (suc i) x e = omega arith
