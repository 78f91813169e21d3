-- The calls and marks of each kind of act, and the letter that it sends
use Rattle.std.proofs.Common.{◌≡◌, ℕ, zero, suc, ◌-◌, nat_eq, List, [], ◌∷◌, Option, Some, None, slice_get, slice_set, refl, sym, ap, ◌∙◌, inl, inr, arith, eqb-true}
use Rattle.rambo_tag.specs.declared.version.Version.{Version}
use Rattle.rambo_history.specs.declared.event.CallId.{CallId}
use Rattle.rambo_history.specs.declared.operation.Op.{Op}
use Rattle.rambo_calls.specs.declared.stage.Stage.{Stage}
use Rattle.rambo_calls.specs.declared.stage.Stage.TheVariants.{Query, Propagation}
use Rattle.rambo_calls.specs.Calls.{CallState, find_call}
use Rattle.rambo_node.specs.Changes.{set_mark, get_mark, stage_met, advanced}
use Rattle.rambo_node.specs.Nodes.{NodeState, open_call}
use Rattle.rambo_sequence.specs.declared.mark.Mark.{Mark}
use Rattle.rambo_run.specs.Worlds.{WorldState, node_at}
use Rattle.rambo_run.specs.Steps.{with_mark}
use Rattle.rambo_run.proofs.Lists.{pick, some_inj, none-some, Member, member_find}

abbrev pub id_of : ℕ → ℕ → CallId
id_of name number = record { name = name; number = number }

-- the marks when a set took its tag
abbrev pub with_set : List Mark → ℕ → ℕ → Op → Option Version → List Mark
with_set ks n number o kept = with_mark ks (set_mark (id_of n number) o kept)

-- and when a get was answered
abbrev pub with_get : List Mark → ℕ → ℕ → Op → Option Version → List Mark
with_get ks n number o kept = with_mark ks (get_mark (id_of n number) o kept)

-- the open call of an id is found under its number, and the id has the node's name
pub open_found : {Q : Type 0} (x : NodeState Q) (id : CallId) (c : CallState Q) → open_call x id ≡ Some c → (find_call id.number x.calls ≡ Some c) × (id.name ≡ x.name)
open_found x id c e = elim (pick (nat_eq id.name x.name) (find_call id.number x.calls) None) [
  | inl p ↦ (sym p.1 ∙ e, eqb-true id.name x.name p.0)
  | inr p ↦ absurd (none-some c (sym p.1 ∙ e))
]

-- so that it is one of the node's calls, of which this is the id
pub open_member : {Q : Type 0} (n : ℕ) (x : NodeState Q) (id : CallId) (c : CallState Q) → x.name ≡ n → open_call x id ≡ Some c → Member c x.calls × (id ≡ id_of n c.number)
open_member n x id c h e =
    let r = open_found x id c e in
    let f = member_find id.number x.calls c r.0 in
    let name : id.name ≡ n = r.1 ∙ h in
    let number : id.number ≡ c.number = sym f.1 in
    (f.0, λ i. id_of (name i) (number i))

-- a call that goes on sends no letter
stage_letter : {Q : Type 0} (x : NodeState Q) (id : CallId) (c : CallState Q) (g : Stage) → (stage_met x id c g).letter ≡ None
stage_letter x id c Query = refl
stage_letter x id c (Propagation kept) = refl

pub advanced_letter : {Q : Type 0} (x : NodeState Q) (id : CallId) (o : Option (CallState Q)) → (advanced x id o).letter ≡ None
advanced_letter x id None = refl
advanced_letter x id (Some c) = stage_letter x id c c.stage

set_self : {A : Type 0} (xs : List A) (i : ℕ) (a : A) → slice_get xs i ≡ Some a → slice_set xs i a ≡ xs
set_self [] i a e = absurd (none-some a e)
set_self (x ∷ xs) zero a e = λ i. some_inj a x (sym e) i ∷ xs
set_self (x ∷ xs) (suc i) a e = ap (λ r. x ∷ r) (set_self xs i a e)

-- a node put in its own place leaves the nodes as they are
pub put_self : {Q : Type 0} (w : WorldState Q) (n : ℕ) (x : NodeState Q) → node_at w n ≡ Some x → slice_set w.nodes (n - 1) x ≡ w.nodes
put_self w zero x e = absurd (none-some x e)
put_self w (suc n) x e =
    let i : suc n - 1 ≡ n = omega arith in
    ap (λ i. slice_set w.nodes i x) i ∙ set_self w.nodes n x e
