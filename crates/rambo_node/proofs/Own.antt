-- The open call of an id: of a node's own name, or none; and that at a place
use Rattle.std.proofs.Common.{◌≡◌, Bool, true, false, not, ℕ, ◌<◌, ◌≤◌, List, length, Option, None, Some, Bor, IfSome, MatchOption, nat_eq, slice_get, slice_index_or, refl, sym, ap, ◌∙◌}
use Rattle.std.specs.Prelude.{if◌then◌else◌}
use Rattle.std.specs.List.{HoldsAt}
use Rattle.std.specs.Option.{option_copied, option_map}
use Rattle.std.proofs.lemmas.Bool.{true≢false, false≢true}
use Rattle.std.proofs.lemmas.Option.{slice_get_past, slice_get_read, slice_get-map}
use Rattle.rambo_history.specs.declared.event.CallId.{CallId}
use Rattle.rambo_calls.specs.declared.open_call.OpenCall.{OpenCall}
use Rattle.rambo_calls.specs.Calls.{find_call}
use Rattle.rambo_calls.specs.Kept.{call_of, calls_of, call_found}
use Rattle.rambo_node.specs.Nodes.{NodeState, open_call}

chosen : {A : Type 0} (b : Bool) (x y : A) → not b ≡ true → (if b then x else y) ≡ y
chosen true x y e = absurd (false≢true e)
chosen false x y e = refl

kept : {A : Type 0} (b : Bool) (x y : A) → not b ≡ false → (if b then x else y) ≡ x
kept true x y e = refl
kept false x y e = absurd (true≢false e)

pub other_call : {Q : Type 0} (x : NodeState Q) (id : CallId) → not (nat_eq id.name x.name) ≡ true → open_call x id ≡ None
other_call x id e = chosen (nat_eq id.name x.name) (find_call id.number x.calls) None e

pub own_call : {Q : Type 0} (x : NodeState Q) (id : CallId) → not (nat_eq id.name x.name) ≡ false → open_call x id ≡ find_call id.number x.calls
own_call x id e = kept (nat_eq id.name x.name) (find_call id.number x.calls) None e

-- what a look at a place found is the call there
pub call_there : {Q : Type 0} (cs : List (OpenCall Q)) (n : ℕ) (o : Option (Bor (OpenCall Q))) → IfSome o (λ x. x.now ≡ slice_index_or cs n x.now)
    → MatchOption o (length cs ≤ n) (λ x. (n < length cs) × HoldsAt (λ y. x.now ≡ y) cs n) → call_found (option_copied o) ≡ slice_get (calls_of cs) n
call_there cs n None is at = sym (ap (option_map call_of) (slice_get_past cs n at)) ∙ sym (slice_get-map call_of cs n)
call_there cs n (Some x) is at = sym (ap (option_map call_of) (slice_get_read cs (length cs) n x.now refl at.0 is)) ∙ sym (slice_get-map call_of cs n)
