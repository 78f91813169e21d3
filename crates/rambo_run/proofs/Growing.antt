-- What a node held at a beginning of a run it holds at the end
use Rattle.std.proofs.Common.{◌≡◌, ℕ, ◌≤◌, List, [], ◌∷◌, ◌++◌, length, take, Option, None, Some, refl, sym, ap, ◌∙◌, subst, arith}
use Rattle.std.proofs.lemmas.List.{length-append}
use mathlib.Core.List.{IsPrefix}
use Rattle.rambo_names.specs.Quorums.{QuorumSystem}
use Rattle.rambo_tag.specs.Copies.{joined}
use Rattle.rambo_tag.proofs.Joins.{joined-empty}
use Rattle.rambo_node.specs.Nodes.{NodeState}
use Rattle.rambo_node.specs.Steps.{Step}
use Rattle.rambo_run.specs.Worlds.{node_at, copies_of, held_by}
use Rattle.rambo_run.specs.Runs.{run}
use Rattle.rambo_run.specs.Legal.{CopiesAreKept}
use Rattle.rambo_run.proofs.Held.{HoldsAll, up}
use Rattle.rambo_run.proofs.Moments.{moment, worlds, last_moment}
use Rattle.rambo_run.proofs.NodeLists.{node_stays}
use Rattle.rambo_run.proofs.CollectionClaims.{then, runs, is_then}

take_front : {A : Type 0} (xs rest : List A) → take (length xs) (xs ++ rest) ≡ xs
take_front [] rest = refl
take_front (x ∷ xs) rest = ap (λ r. x ∷ r) (take_front xs rest)

module _ {Q : Type 0} (s : QuorumSystem Q) (founders : Q) (xs ys : List (Step Q)) (p : IsPrefix xs ys) (n : ℕ) where
  beginning : take (length xs) ys ≡ xs
  beginning = ap (take (length xs)) (sym p.1) ∙ take_front xs p.0

  -- of a node that is there
  kept_there : (x : NodeState Q) → node_at (run s founders xs) n ≡ Some x → joined (held_by (run s founders ys) n) x.registers ≡ held_by (run s founders ys) n
  kept_there x e =
      let at_first : node_at (moment s founders ys (length xs)) n ≡ Some x = ap (λ l. node_at (run s founders l) n) beginning ∙ e in
      let at_last : node_at (run s founders ys) n ≡ Some (then s founders ys (length ys) n) =
      ap (λ w. node_at w n) (sym (last_moment s founders ys)) ∙ node_stays s founders (moment s founders ys) (worlds s founders ys) (length xs) (length ys) n x at_first in
      let longer : length xs ≤ length ys = subst (λ l. length xs ≤ length l) p.1 (omega (arith, length-append xs p.0)) in
      let h : HoldsAll (then s founders ys (length xs) n) (then s founders ys (length ys) n) = up s founders (then s founders ys) (runs s founders ys) (length xs) (length ys) n longer in
      subst (λ r. joined r x.registers ≡ r) (sym (ap copies_of at_last))
      (subst (λ (x : NodeState _). joined (then s founders ys (length ys) n).registers x.registers ≡ (then s founders ys (length ys) n).registers) (sym (is_then s founders ys (length xs) n x at_first)) h.copies)

  kept_anyway : (o : Option (NodeState Q)) → node_at (run s founders xs) n ≡ o → joined (held_by (run s founders ys) n) (copies_of o) ≡ held_by (run s founders ys) n
  kept_anyway None e = joined-empty (held_by (run s founders ys) n)
  kept_anyway (Some x) e = kept_there x e

pub copies_are_kept : {Q : Type 0} (s : QuorumSystem Q) → CopiesAreKept s
copies_are_kept s founders xs ys p n = kept_anyway s founders xs ys p n (node_at (run s founders xs) n) refl
