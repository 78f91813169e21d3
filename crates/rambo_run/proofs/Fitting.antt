-- The event that a step adds fits the history
use Rattle.std.proofs.Common.{◌≡◌, ℕ, ◌+◌, ◌⊎◌, true, if◌then◌else◌, List, [], ◌∷◌, ◌++◌, length, Option, Some, None, is_some, refl, sym, ap, ◌∙◌, subst, inl, inr}
use Rattle.std.proofs.lemmas.Bool.{cond-true}
use Rattle.rambo_names.specs.Quorums.{QuorumSystem}
use Rattle.rambo_tag.specs.declared.version.Version.{Version}
use Rattle.rambo_tag.specs.Tags.{value_of}
use Rattle.rambo_history.specs.declared.operation.Op.{Op}
use Rattle.rambo_history.specs.declared.operation.Op.TheVariants as op
use Rattle.rambo_history.specs.declared.event.CallId.{CallId}
use Rattle.rambo_history.specs.declared.event.Event.{Event}
use Rattle.rambo_history.specs.declared.event.Event.TheVariants as event
use Rattle.rambo_history.specs.declared.fault.HistoryFault.{HistoryFault}
use Rattle.rambo_history.specs.declared.fault.HistoryFault.TheVariants.{CalledTwice, WrongKind}
use Rattle.rambo_history.specs.Calls.{fits, answer_for, is_get}
use Rattle.rambo_history.specs.Histories.{call_in}
use Rattle.rambo_history.specs.Faults.{answer_fault, fault_of}
use Rattle.rambo_node.specs.Acts.{Act, Meant}
use Rattle.rambo_calls.specs.declared.stage.Stage.{Stage}
use Rattle.rambo_calls.specs.declared.stage.Stage.TheVariants.{Query, Propagation}
use Rattle.rambo_calls.specs.Calls.{CallState}
use Rattle.rambo_node.specs.Changes.{stage_met, advanced, made_by}
use Rattle.rambo_node.specs.Nodes.{NodeState, open_call}
use Rattle.rambo_node.specs.Operations.{answer_of}
use Rattle.rambo_node.specs.Acts as act
use Rattle.rambo_sequence.specs.declared.mark.Mark.{Mark}
use Rattle.rambo_sequence.specs.Marks.{told_value, propagated_value}
use Rattle.rambo_node.specs.Steps.{Step}
use Rattle.rambo_run.specs.Worlds.{WorldState, node_at}
use Rattle.rambo_run.specs.Steps.{meant, Turn, turn_by, turn_at, turn_of, turn}
use Rattle.rambo_run.specs.Runs.{run}
use Rattle.rambo_run.specs.Chronicles.{IsMarked}
use Rattle.rambo_run.proofs.Lists.{Member}
use Rattle.rambo_run.proofs.Deeds.{id_of, open_member}
use Rattle.rambo_run.proofs.Seen.{Seen, seen}
use Rattle.rambo_run.proofs.Books.{Book, Apart, next_new, open_call as not_answered}
use Rattle.rambo_run.proofs.Booked.{book}
use Rattle.rambo_run.proofs.Moments.{moment, worlds, last_moment}
use Rattle.rambo_run.proofs.Tags.{set_value}
use Rattle.rambo_run.proofs.NodeLists.{node_is, node_named}

-- the event stands at the end of the history, and fits there
pub record FitsEnd (old new : List Event) : Type 0 where
  pub event : Event
  pub history : new ≡ old ++ event ∷ []
  pub fault : fault_of old event ≡ None

answer_fits : (o : Op) (kept : Option Version) → fits o (answer_of o kept) ≡ true
answer_fits (op.Set key value) kept = refl
answer_fits (op.Get key) kept = value_fits (value_of kept)
  where
    value_fits : (v : Option (List ℕ)) → fits (op.Get key) (answer_for v) ≡ true
    value_fits None = refl
    value_fits (Some v) = refl

abbrev called_fault : Option Op → Option HistoryFault
called_fault o = if is_some o then Some CalledTwice else None

module _ {Q : Type 0} (s : QuorumSystem Q) (founders : Q) (ss : List (Step Q)) where
  abbrev w : WorldState Q
  w = run s founders ss

  abbrev v : Seen Q
  v = seen s founders w

  -- the book of the whole run
  pub run_book : Book v
  run_book = subst (λ w. Book (seen s founders w)) (last_moment s founders ss) (book s founders (moment s founders ss) (worlds s founders ss) (length ss))

  seen_is : (n : ℕ) (x : NodeState Q) → node_at w n ≡ Some x → x ≡ v.node n
  seen_is n x e =
      let here : node_at (moment s founders ss (length ss)) n ≡ Some x = ap (λ w. node_at w n) (last_moment s founders ss) ∙ e in
      node_is s founders (moment s founders ss) (worlds s founders ss) (length ss) n x here ∙ ap (λ w. (seen s founders w).node n) (last_moment s founders ss)

  -- a node's next call was never made
  pub call_fits : (n : ℕ) (x : NodeState Q) (o : Op) → node_at w n ≡ Some x → fault_of w.history (event.Call (id_of n (x.made + 1)) o) ≡ None
  call_fits n x o e =
      let made : x.made ≡ (v.node n).made = ap (λ x. x.made) (seen_is n x e) in
      ap called_fault (ap (λ i. call_in w.history (id_of n (i + 1))) made ∙ next_new v n run_book)

  -- an open call was made, wasn't answered, and is answered in its kind
  pub answer_fits_end : (n : ℕ) (x : NodeState Q) (c : CallState Q) (kept : Option Version) → node_at w n ≡ Some x → Member c x.calls → fault_of w.history (event.Answer (id_of n c.number) (answer_of c.op kept)) ≡ None
  answer_fits_end n x c kept e i =
      let j : Member c (v.node n).calls = subst (λ x. Member c x.calls) (seen_is n x e) i in
      (λ t. answer_fault (run_book.called n c j t) (not_answered v n c j run_book t) (answer_of c.op kept)) ∙ cond-true (fits c.op (answer_of c.op kept)) None (Some WrongKind) (answer_fits c.op kept)

  -- a node's next call, under its own name
  own_call_fits : (n : ℕ) (x : NodeState Q) (o : Op) → node_at w n ≡ Some x → fault_of w.history (event.Call (id_of x.name (x.made + 1)) o) ≡ None
  own_call_fits n x o e = subst (λ k. fault_of w.history (event.Call (id_of k (x.made + 1)) o) ≡ None) (sym (node_named s founders ss n x e)) (call_fits n x o e)

  -- a call that an id finds is open
  pub open_fits : (n : ℕ) (x : NodeState Q) (id : CallId) (c : CallState Q) (kept : Option Version) → node_at w n ≡ Some x → open_call x id ≡ Some c
      → fault_of w.history (event.Answer id (answer_of c.op kept)) ≡ None
  open_fits n x id c kept e f =
      let r = open_member n x id c (node_named s founders ss n x e) f in
      subst (λ i. fault_of w.history (event.Answer i (answer_of c.op kept)) ≡ None) (sym r.1) (answer_fits_end n x c kept e r.0)

  abbrev Grows : Turn Q → Type 0
  Grows t = (t.world.history ≡ w.history) ⊎ FitsEnd w.history t.world.history

  stage_fits : (n : ℕ) (x : NodeState Q) (id : CallId) (c : CallState Q) (g : Stage) → node_at w n ≡ Some x → open_call x id ≡ Some c → Grows (turn_by w n (stage_met x id c g))
  stage_fits n x id c Query e f = inl refl
  stage_fits n x id c (Propagation kept) e f = inr (record { event = event.Answer id (answer_of c.op kept); history = refl; fault = open_fits n x id c kept e f })

  advance_fits : (n : ℕ) (x : NodeState Q) (id : CallId) (o : Option (CallState Q)) → node_at w n ≡ Some x → open_call x id ≡ o → Grows (turn_by w n (advanced x id o))
  advance_fits n x id None e f = inl refl
  advance_fits n x id (Some c) e f = stage_fits n x id c c.stage e f

  -- an act of a node adds no event, or one that fits
  act_fits : (n : ℕ) (x : NodeState Q) (c : Act Q) → node_at w n ≡ Some x → Grows (turn_by w n (made_by x c))
  unfolding made_by
  act_fits n x (act.Call o) e = inr (record { event = event.Call (id_of x.name (x.made + 1)) o; history = refl; fault = own_call_fits n x o e })
  act_fits n x (act.Advance id) e = advance_fits n x id (open_call x id) e refl
  act_fits n x _ e = inl refl

  at_fits : (n : ℕ) (c : Act Q) (o : Option (NodeState Q)) → node_at w n ≡ o → Grows (turn_at w n o c)
  at_fits n c None e = inl refl
  at_fits n c (Some x) e = act_fits n x c e

  of_fits : (o : Option (Meant Q)) → Grows (turn_of w o)
  of_fits None = inl refl
  of_fits (Some m) = at_fits m.name m.act (node_at w m.name) refl

  -- a step adds no event, or one that fits
  pub events_fit : (st : Step Q) → Grows (turn w st)
  unfolding turn
  events_fit st = of_fits (meant w st)

  -- each mark is of a call of the history, with what it asked for
  pub mark_called : (k : Mark) → Member k w.marks → call_in w.history k.id ≡ Some k.op
  mark_called k i = run_book.mark_called k i

  -- a set's has the value that was set
  set_told : (k : Mark) (key v : List ℕ) → Member k w.marks → k.op ≡ op.Set key v → value_of k.kept ≡ Some v
  set_told k key v i e =
      set_value s founders (moment s founders ss) (worlds s founders ss) (length ss) k key v (subst (λ w. Member k w.marks) (sym (last_moment s founders ss)) i) e

  value_told : (k : Mark) → Member k w.marks → (o : Op) → k.op ≡ o → (v : Version) → k.kept ≡ Some v → v.value ≡ propagated_value w.history k.id o
  value_told k i (op.Set key value) is v e = ap value_of (sym e) ∙ set_told k key value i is
  value_told k i (op.Get key) is v e =
      ap value_of (sym e) ∙ sym (answer_told (value_of k.kept))
      ∙ sym (ap told_value (run_book.mark_answered k i (ap is_get is) ∙ ap (λ o. Some (answer_of o k.kept)) is))
    where
      answer_told : (o : Option (List ℕ)) → told_value (Some (answer_for o)) ≡ o
      answer_told None = refl
      answer_told (Some value) = refl

  -- each is told by the history
  pub marks_told : (k : Mark) → Member k w.marks → IsMarked w.history k
  marks_told k i = record {
    called = run_book.mark_called k i;
    answered = λ get. ap is_some (run_book.mark_answered k i get);
    value = value_told k i k.op refl;
  }

  -- and no two are of one call
  pub marks_apart : Apart w.marks
  marks_apart = run_book.apart
