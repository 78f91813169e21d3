-- The nodes of the first world
use Rattle.std.proofs.Common.{◌≡◌, ℕ, zero, suc, ◌+◌, ◌<◌, ◌⊎◌, List, [], ◌∷◌, length, Some, None, slice_get, refl, sym, ap, ◌∙◌, inl, inr, ⊎_elim, arith}
use Rattle.rambo_names.specs.Names.{IsName, rising}
use Rattle.rambo_names.specs.Quorums.{QuorumSystem}
use Rattle.rambo_node.specs.Nodes.{first_node}
use Rattle.rambo_run.specs.Worlds.{node_at, first_nodes, first_world}
use Rattle.rambo_run.proofs.Lists.{none-some}
use Rattle.rambo_run.proofs.Seen.{node_or, seen_at}

first_at : {Q : Type 0} (s : QuorumSystem Q) (founders : Q) (k n i : ℕ) → (slice_get (first_nodes s founders (rising k n)) i ≡ Some (first_node s founders (n + i))) ⊎ (slice_get (first_nodes s founders (rising k n)) i ≡ None)
unfolding rising
first_at s founders zero n i = inr refl
first_at s founders (suc k) n zero = let e : n ≡ n + 0 = omega arith in inl (ap (λ n. Some (first_node s founders n)) e)
first_at s founders (suc k) n (suc i) =
    let e : n + 1 + i ≡ n + suc i = omega arith in
    ⊎_elim (λ h. inl (h ∙ ap (λ n. Some (first_node s founders n)) e)) inr (first_at s founders k (n + 1) i)

pub first_count : {Q : Type 0} (s : QuorumSystem Q) (founders : Q) (k n : ℕ) → length (first_nodes s founders (rising k n)) ≡ k
unfolding rising
first_count s founders zero n = refl
first_count s founders (suc k) n = ap suc (first_count s founders k (n + 1))

pub first_seen : {Q : Type 0} (s : QuorumSystem Q) (founders : Q) (n : ℕ) → seen_at s founders (first_world s founders) n ≡ first_node s founders n
unfolding first_world
first_seen s founders zero = refl
first_seen s founders (suc n) =
    let e : 1 + n ≡ suc n = omega arith in
    ⊎_elim (λ h. ap (node_or (first_node s founders (suc n))) h ∙ ap (first_node s founders) e) (λ h. ap (node_or (first_node s founders (suc n))) h) (first_at s founders 64 1 n)

there : {A : Type 0} (xs : List A) (i : ℕ) → i < length xs → slice_get xs i ≡ None → ⊥
there [] i h e = omega (arith, h)
there (x ∷ xs) zero h e = none-some x (sym e)
there (x ∷ xs) (suc i) h e = there xs i (omega (arith, h)) e

-- each name has a node at first
pub first_named : {Q : Type 0} (s : QuorumSystem Q) (founders : Q) (n : ℕ) → IsName n → node_at (first_world s founders) n ≡ Some (first_node s founders n)
unfolding first_world
first_named s founders zero h = absurd (omega (arith, h.0))
first_named s founders (suc n) h =
    let e : 1 + n ≡ suc n = omega arith in
    elim (first_at s founders 64 1 n) [
      | inl a ↦ a ∙ ap (λ n. Some (first_node s founders n)) e
      | inr a ↦ absurd (there (first_nodes s founders (rising 64 1)) n (omega (arith, h.1, first_count s founders 64 1)) a)
    ]
