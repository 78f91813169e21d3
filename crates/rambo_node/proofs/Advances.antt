-- How an open call goes on that is found by its id
use Rattle.std.proofs.Common.{◌≡◌, ℕ, zero, suc, ◌+◌, Bool, true, false, if◌then◌else◌, nat_eq, List, [], ◌∷◌, Option, None, Some, slice_get, slice_set, refl, sym, ap, ◌∙◌}
use Rattle.std.proofs.lemmas.Bool.{eqb-true, true≢false}
use Rattle.std.proofs.lemmas.Option.{none-some, same_Some}
use Rattle.std.specs.List.{remove}
use Rattle.rambo_tag.specs.declared.version.Version.{Version}
use Rattle.rambo_history.specs.declared.event.CallId.{CallId}
use Rattle.rambo_history.specs.declared.operation.Op.{Op}
use Rattle.rambo_paxos.specs.Attempts.{AttemptState}
use Rattle.rambo_phase.specs.Phases.{started}
use Rattle.rambo_calls.specs.declared.stage.Stage.{Stage}
use Rattle.rambo_calls.specs.declared.stage.Stage.TheVariants.{Query, Propagation}
use Rattle.rambo_calls.specs.Calls.{CallState, place_of, find_call, query_in, asked_in, is_missing}
use Rattle.rambo_node.specs.declared.effect.Effect.TheVariants as effect
use Rattle.rambo_node.specs.Changes.{advanced, stage_met, begun_again, rebid_made}
use Rattle.rambo_calls.specs.Hearing.{restarted}
use Rattle.rambo_calls.specs.Kept.{with_call, propagating}
use Rattle.rambo_node.specs.Kept.{propagation_begun, move_deed, answered_in, answered_from}
use Rattle.rambo_node.specs.Nodes.{NodeState, open_call}
use Rattle.rambo_node.specs.Operations.{taken, with_copy, query_answered, call_closed, called_again}

-- a call that is found by a number has it
found_number : {Q : Type 0} (n : ℕ) (cs : List (CallState Q)) (c : CallState Q) → find_call n cs ≡ Some c → c.number ≡ n
found_number n [] c e = absurd (none-some c e)
found_number n (d ∷ cs) c e = elim (nat_eq d.number n) as (λ b. nat_eq d.number n ≡ b → slice_get (d ∷ cs) (if b then zero else suc (place_of n cs)) ≡ Some c → c.number ≡ n) [
  | true ↦ λ same at. ap (λ x. x.number) (sym (same_Some d c at)) ∙ eqb-true d.number n same
  | false ↦ λ other at. found_number n cs c at
] refl e

-- what is found is found by its number
found_if : {Q : Type 0} (own : Bool) (found : Option (CallState Q)) → is_missing (if own then found else None) ≡ false → (if own then found else None) ≡ found
found_if true found there = refl
found_if false found there = absurd (true≢false there)

-- what is asked in a query
asked_there : {Q : Type 0} (o : Op) (found : Option (CallState Q)) → query_in found ≡ Some o → is_missing found ≡ false
asked_there o None e = absurd (none-some o e)
asked_there o (Some c) e = refl

asked : (o p : Op) (st : Stage) → asked_in p st ≡ Some o → (st ≡ Query) × (p ≡ o)
asked o p Query e = (refl, same_Some p o e)
asked o p (Propagation kept) e = absurd (none-some o e)

told : (p : Op) (st : Stage) → asked_in p st ≡ None → (kept : Option Version) × (st ≡ Propagation kept)
told p Query e = absurd (none-some p (sym e))
told p (Propagation kept) e = (kept, refl)

-- to begin a phase anew is told as nothing else
pub again_done : {Q : Type 0} (x : NodeState Q) (found : Option (CallState Q)) → effect.Done ≡ (begun_again x found).effect
again_done x None = refl
again_done x (Some c) = refl

-- nor is to begin an attempt again
pub rebid_done : {Q : Type 0} (x : NodeState Q) (o : Option (AttemptState Q)) → effect.Done ≡ (rebid_made x o).effect
rebid_done x None = refl
rebid_done x (Some a) = refl

-- a node with these calls, and with the next number
abbrev pub with_calls : {Q : Type 0} → List (CallState Q) → NodeState Q → NodeState Q
with_calls cs x = record x { calls = cs }

abbrev pub next_calls : {Q : Type 0} → List (CallState Q) → NodeState Q → NodeState Q
next_calls cs x = record x { number = x.number + 1; calls = cs }

module _ {Q : Type 0} (x : NodeState Q) (id : CallId) where
  pub found_here : is_missing (open_call x id) ≡ false → open_call x id ≡ find_call id.number x.calls
  found_here there = found_if (nat_eq id.name x.name) (find_call id.number x.calls) there

  own_number : is_missing (open_call x id) ≡ false → (c : CallState Q) → open_call x id ≡ Some c → c.number ≡ id.number
  own_number there c e = found_number id.number x.calls c (sym (found_here there) ∙ e)

  begun_from : Option (CallState Q) → Op → NodeState Q
  begun_from found o = record x {
    registers = with_copy x.registers o (taken x o);
    number = x.number + 1;
    calls = with_call (place_of id.number x.calls) found (propagating (taken x o) (started (x.number + 1) x.map x.name)) x.calls;
  }

  go_on : (o : Op) (found : Option (CallState Q)) → ((c : CallState Q) → found ≡ Some c → c.number ≡ id.number) → query_in found ≡ Some o
      → ((advanced x id found).node ≡ begun_from found o) × ((advanced x id found).deed ≡ move_deed id o (taken x o))
  unfolding query_answered begun_from
  go_on o None own e = absurd (none-some o e)
  go_on o (Some c) own e =
      let a = asked o c.op c.stage e in
      let m = own c refl in (
        ap (λ st. (stage_met x id c st).node) a.0 ∙ λ i. record x {
          registers = with_copy x.registers (a.1 i) (taken x (a.1 i));
          number = x.number + 1;
          calls = slice_set x.calls (place_of (m i) x.calls) (record { number = c.number; op = c.op; stage = Propagation (taken x (a.1 i)); phase = started (x.number + 1) x.map x.name });
        },
        ap (λ st. (stage_met x id c st).deed) a.0 ∙ ap (λ p. move_deed id p (taken x p)) a.1,
      )

  -- an answered query: its copy is put, and goes round
  pub query_moves : (o : Op) → query_in (open_call x id) ≡ Some o
      → (propagation_begun (record x { registers = with_copy x.registers o (taken x o) }) (place_of id.number x.calls) (taken x o) ≡ (advanced x id (open_call x id)).node)
      × (move_deed id o (taken x o) ≡ (advanced x id (open_call x id)).deed)
  unfolding begun_from
  query_moves o e =
      let there = asked_there o (open_call x id) e in
      let moves = go_on o (open_call x id) (own_number there) e in (
        ap (λ f. begun_from f o) (sym (found_here there)) ∙ sym moves.0,
        sym moves.1,
      )

  close_from : (found : Option (CallState Q)) → ((c : CallState Q) → found ≡ Some c → c.number ≡ id.number) → is_missing found ≡ false → query_in found ≡ None
      → (record x { calls = remove x.calls (place_of id.number x.calls) } ≡ (advanced x id found).node) × (answered_from id found ≡ (advanced x id found).deed)
  unfolding call_closed
  close_from None own there e = absurd (true≢false there)
  close_from (Some c) own there e =
      let t = told c.op c.stage e in (
        sym (ap (λ st. (stage_met x id c st).node) t.1 ∙ λ i. record x { calls = remove x.calls (place_of (own c refl i) x.calls) }),
        ap (answered_in id c.op) t.1 ∙ sym (ap (λ st. (stage_met x id c st).deed) t.1),
      )

  -- an answered propagation: the call is taken out
  pub call_closes : is_missing (open_call x id) ≡ false → query_in (open_call x id) ≡ None
      → (record x { calls = remove x.calls (place_of id.number x.calls) } ≡ (advanced x id (open_call x id)).node)
      × (answered_from id (find_call id.number x.calls) ≡ (advanced x id (open_call x id)).deed)
  call_closes there e =
      let closes = close_from (open_call x id) (own_number there) there e in
      (closes.0, ap (answered_from id) (sym (found_here there)) ∙ closes.1)

  again_from : (found : Option (CallState Q)) → ((c : CallState Q) → found ≡ Some c → c.number ≡ id.number) → is_missing found ≡ false
      → record x { number = x.number + 1; calls = with_call (place_of id.number x.calls) found (restarted (x.number + 1) x.map x.name) x.calls } ≡ (begun_again x found).node
  unfolding called_again
  again_from None own there = absurd (true≢false there)
  again_from (Some c) own there = sym (λ i. record x {
    number = x.number + 1;
    calls = slice_set x.calls (place_of (own c refl i) x.calls) (restarted (x.number + 1) x.map x.name c);
  })

  -- a phase that begins anew
  pub begins_again : is_missing (open_call x id) ≡ false
      → record x { number = x.number + 1; calls = with_call (place_of id.number x.calls) (find_call id.number x.calls) (restarted (x.number + 1) x.map x.name) x.calls } ≡ (begun_again x (open_call x id)).node
  begins_again there =
      ap (λ f. record x { number = x.number + 1; calls = with_call (place_of id.number x.calls) f (restarted (x.number + 1) x.map x.name) x.calls }) (sym (found_here there))
      ∙ again_from (open_call x id) (own_number there) there
