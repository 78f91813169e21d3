-- What is told of a step right after it stays as it is: so the text of a run may be written step by step
use Rattle.std.proofs.Common.{◌≡◌, ◌≤◌, ℕ, map, ◌+◌, subst, Bool, true, false, if◌then◌else◌, List, [], ◌∷◌, ◌++◌, length, nat_lt, Option, None, Some, Result, Ok, refl, sym, ap, ◌∙◌, append_assoc, append-nil, inl, inr, arith}
use Rattle.rambo_names.specs.declared.refusal.Refusal.{Refusal}
use Rattle.rambo_names.specs.Quorums.{QuorumSystem}
use Rattle.rambo_names.specs.Weights.{Weights}
use Rattle.rambo_history.specs.declared.operation.Op.{Op}
use Rattle.rambo_history.specs.declared.event.CallId.{CallId}
use Rattle.rambo_history.specs.declared.event.Event.{Event}
use Rattle.rambo_history.specs.declared.event.Event.TheVariants as event
use Rattle.rambo_history.specs.Histories.{call_in}
use Rattle.rambo_history.specs.Forms.{IsWellFormed}
use Rattle.rambo_config_map.specs.Maps.{active_at, end_of}
use Rattle.rambo_gc.specs.declared.gc_move.GcMove.{GcMove}
use Rattle.rambo_gc.specs.declared.gc_move.GcMove.TheVariants.{Propagating, Done}
use Rattle.rambo_gc.specs.Collections.{CollectionState}
use Rattle.rambo_paxos.specs.declared.bid.Bid.{Bid}
use Rattle.rambo_paxos.specs.declared.bid.Bid.TheVariants as bid
use Rattle.rambo_paxos.specs.Attempts.{AttemptState, bid_of}
use Rattle.rambo_node.specs.Acts.{Act, Meant}
use Rattle.rambo_node.specs.declared.effect.Effect.{Effect}
use Rattle.rambo_node.specs.declared.effect.Effect.TheVariants as effect
use Rattle.rambo_calls.specs.declared.stage.Stage.{Stage}
use Rattle.rambo_calls.specs.declared.stage.Stage.TheVariants.{Query, Propagation}
use Rattle.rambo_calls.specs.Calls.{CallState}
use Rattle.rambo_node.specs.Changes.{decided, stage_met, advanced, begun_again, collection_turned, collection_advanced, rebid_made, bid_made, attempt_advanced, made_by, quieted}
use Rattle.rambo_node.specs.Nodes.{NodeState, open_call}
use Rattle.rambo_node.specs.Reconfigurations.{attempt_ended, collection_move}
use Rattle.rambo_node.specs.Acts as act
use Rattle.rambo_node.specs.declared.prepared.Quiet.{Quiet}
use Rattle.rambo_node.specs.declared.prepared.Quiet.TheVariants as quiet
use Rattle.rambo_node.specs.Steps.{Step}
use Rattle.rambo_run.specs.Worlds.{WorldState, first_world, node_at}
use Rattle.rambo_run.specs.Steps.{Turn, meant, refusal, turn_by, turn_at, turn_of, turn}
use Rattle.rambo_run.specs.Runs.{after, unless_refused, run_from, run, result_of, results_from, maps_of, given_sequences, given_order, outcome_at, outcome_of}
use Rattle.rambo_run.proofs.Events.{none_or_some, call_kept, call_last}
use Rattle.rambo_text.specs.declared.version.Version.{Version}
use Rattle.rambo_text.specs.Versions.{head_text}
use Rattle.rambo_check.specs.Lines.{Item, Ordered, items_text}
use Rattle.rambo_outcome.specs.Outcomes.{call_items, step_items, steps_items, order_items_in, map_item, outcome_lines}
use Rattle.rambo_check.proofs.ItemTexts.{items-append}
use Rattle.rambo_outcome.specs.Notes.{NoteState, other_items, events_before, noted, woven}
use Rattle.rambo_outcome.proofs.Loops.{whole_text}
use Rattle.rambo_outcome.proofs.Weaving.{Parts, parts_on}

-- a history, and a longer one that begins with it
abbrev Grows : List Event → List Event → Type 0
Grows h k = (more : List Event) × (k ≡ h ++ more)

grows-refl : (h : List Event) → Grows h h
grows-refl h = ([], sym (append-nil h))

grows-trans : (h k l : List Event) → Grows h k → Grows k l → Grows h l
grows-trans h k l a b = (a.0 ++ b.0, b.1 ∙ ap (λ t. t ++ b.0) a.1 ∙ append_assoc h a.0 b.0)

-- of a call that is told the history has what it asked
abbrev IsTold : {Q : Type 0} → List Event → Effect Q → Type 0
IsTold h effect.Done = Unit {0}
IsTold h (effect.Called c) = (o : Op) × (call_in h c ≡ Some o)
IsTold h (effect.Sent l) = Unit {0}
IsTold h effect.Moved = Unit {0}
IsTold h (effect.Answered c a) = Unit {0}
IsTold h (effect.Collected name place) = Unit {0}
IsTold h (effect.Decided name d) = Unit {0}

-- a history goes on by the call or the answer that is told, and else stays
abbrev Adds : {Q : Type 0} → List Event → Effect Q → List Event → Type 0
Adds h effect.Done k = k ≡ h
Adds h (effect.Called c) k = (o : Op) × (k ≡ h ++ event.Call c o ∷ [])
Adds h (effect.Sent l) k = k ≡ h
Adds h effect.Moved k = k ≡ h
Adds h (effect.Answered c a) k = k ≡ h ++ event.Answer c a ∷ []
Adds h (effect.Collected name place) k = k ≡ h
Adds h (effect.Decided name d) k = k ≡ h

same_grows : (h k : List Event) → k ≡ h → Grows h k
same_grows h k is = ([], is ∙ sym (append-nil h))

adds_grows : {Q : Type 0} (h k : List Event) (e : Effect Q) → Adds h e k → Grows h k
adds_grows h k effect.Done is = same_grows h k is
adds_grows h k (effect.Called c) is = (event.Call c is.0 ∷ [], is.1)
adds_grows h k (effect.Sent l) is = same_grows h k is
adds_grows h k effect.Moved is = same_grows h k is
adds_grows h k (effect.Answered c a) is = (event.Answer c a ∷ [], is)
adds_grows h k (effect.Collected name place) is = same_grows h k is
adds_grows h k (effect.Decided name d) is = same_grows h k is

called_there : (h : List Event) (c : CallId) (o : Op) → (p : Op) × (call_in (h ++ event.Call c o ∷ []) c ≡ Some p)
called_there h c o = elim (none_or_some (call_in h c)) [
  | inl none ↦ (o, call_last h c o none)
  | inr p ↦ (p.0, call_kept h (event.Call c o ∷ []) c p.0 p.1)
]

adds_told : {Q : Type 0} (h k : List Event) (e : Effect Q) → Adds h e k → IsTold k e
adds_told h k effect.Done is = tt
adds_told h k (effect.Called c) is = let there = called_there h c is.0 in (there.0, ap (λ l. call_in l c) is.1 ∙ there.1)
adds_told h k (effect.Sent l) is = tt
adds_told h k effect.Moved is = tt
adds_told h k (effect.Answered c a) is = tt
adds_told h k (effect.Collected name place) is = tt
adds_told h k (effect.Decided name d) is = tt

-- as the history grows, the same is told
abbrev Stays : List Event → Result (Effect Weights) Refusal → Type 0
Stays h r = (k : List Event) (n : ℕ) → Grows h k → step_items k n r ≡ step_items h n r

told_stays : (h : List Event) (e : Effect Weights) → IsTold h e → Stays h (Ok e)
told_stays h effect.Done is k n more = refl
told_stays h (effect.Called c) is k n more =
    ap (call_items c) (ap (λ l. call_in l c) more.1 ∙ call_kept h more.0 c is.0 is.1 ∙ sym is.1)
told_stays h (effect.Sent l) is k n more = refl
told_stays h effect.Moved is k n more = refl
told_stays h (effect.Answered c a) is k n more = refl
told_stays h (effect.Collected name place) is k n more = refl
told_stays h (effect.Decided name d) is k n more = refl

-- what is told of an effect: the event that it adds, or else a note
adds_parts : (h k : List Event) (e : Effect Weights) (n : ℕ) → Adds h e k → IsWellFormed k → Parts h k (step_items k n (Ok e)) (other_items n (Ok e))
adds_parts h k effect.Done n is well = inl (is, refl)
adds_parts h k (effect.Called c) n is well =
    let new : call_in h c ≡ None = well.calls_once h (event.Call c is.0) [] is.1 c is.0 refl in
    inr (event.Call c is.0, is.1, ap (call_items c) (ap (λ l. call_in l c) is.1 ∙ call_last h c is.0 new), refl)
adds_parts h k (effect.Sent l) n is well = inl (is, refl)
adds_parts h k effect.Moved n is well = inl (is, refl)
adds_parts h k (effect.Answered c a) n is well = inr (event.Answer c a, is, refl, refl)
adds_parts h k (effect.Collected name place) n is well = inl (is, refl)
adds_parts h k (effect.Decided name d) n is well = inl (is, refl)

-- a quiet act adds no event
module _ {Q : Type 0} (h : List Event) (x : NodeState Q) where
  again_adds : (o : Option (CallState Q)) → Adds h (begun_again x o).effect h
  again_adds None = refl
  again_adds (Some c) = refl

  turned_adds : (g : CollectionState) (m : GcMove) → Adds h (collection_turned x g m).effect h
  turned_adds g Propagating = refl
  turned_adds g Done = refl

  collection_adds : (o : Option CollectionState) → Adds h (collection_advanced x o).effect h
  collection_adds None = refl
  collection_adds (Some g) = turned_adds g (collection_move x.map g)

  rebid_adds : (o : Option (AttemptState Q)) → Adds h (rebid_made x o).effect h
  rebid_adds None = refl
  rebid_adds (Some a) = refl

  bid_adds : (a : AttemptState Q) (b : Bid Q) → Adds h (bid_made x a b).effect h
  bid_adds a bid.Propose = refl
  bid_adds a (bid.Chosen c) = refl

  known_adds : (a : AttemptState Q) (t : Bool) → Adds h (if t then record { node = attempt_ended x; effect = decided x a (active_at x.map a.place) } else bid_made x a (bid_of a)).effect h
  known_adds a true = refl
  known_adds a false = bid_adds a (bid_of a)

  attempt_adds : (o : Option (AttemptState Q)) → Adds h (attempt_advanced x o).effect h
  attempt_adds None = refl
  attempt_adds (Some a) = known_adds a (nat_lt a.place (end_of x.map))

  quiet_adds : (q : Quiet Q) → Adds h (quieted x q).effect h
  quiet_adds (quiet.Again id) = again_adds (open_call x id)
  quiet_adds quiet.AdvanceCollect = collection_adds x.collection
  quiet_adds quiet.Rebid = rebid_adds x.attempt
  quiet_adds quiet.AdvanceRecon = attempt_adds x.attempt
  quiet_adds quiet.Collect = refl
  quiet_adds _ = refl

module _ {Q : Type 0} (w : WorldState Q) where
  -- the history of a world goes on by what a turn tells
  abbrev TellsTrue : Turn Q → Type 0
  TellsTrue t = Adds w.history t.effect t.world.history

  stage_true : (n : ℕ) (x : NodeState Q) (id : CallId) (c : CallState Q) (g : Stage) → TellsTrue (turn_by w n (stage_met x id c g))
  stage_true n x id c Query = refl
  stage_true n x id c (Propagation kept) = refl

  advanced_true : (n : ℕ) (x : NodeState Q) (id : CallId) (o : Option (CallState Q)) → TellsTrue (turn_by w n (advanced x id o))
  advanced_true n x id None = refl
  advanced_true n x id (Some c) = stage_true n x id c c.stage

  act_true : (n : ℕ) (x : NodeState Q) (a : Act Q) → TellsTrue (turn_by w n (made_by x a))
  unfolding made_by
  act_true n x (act.Call o) =
      let id : CallId = record { name = x.name; number = x.made + 1 } in
      (o, refl {a = w.history ++ event.Call id o ∷ []})
  act_true n x (act.Advance id) = advanced_true n x id (open_call x id)
  act_true n x (act.Quietly q) = quiet_adds w.history x q
  act_true n x _ = refl

  at_true : (n : ℕ) (a : Act Q) (o : Option (NodeState Q)) → TellsTrue (turn_at w n o a)
  at_true n a None = refl
  at_true n a (Some x) = act_true n x a

  of_true : (o : Option (Meant Q)) → TellsTrue (turn_of w o)
  of_true None = refl
  of_true (Some m) = at_true m.name m.act (node_at w m.name)

  turn_true : (st : Step Q) → TellsTrue (turn w st)
  unfolding turn
  turn_true st = of_true (meant w st)

module _ (s : QuorumSystem Weights) where
  after_grows : (w : WorldState Weights) (st : Step Weights) → Grows w.history (after s w st).history
  unfolding after
  after_grows w st = by_refusal (refusal s w st)
    where
      by_refusal : (o : Option Refusal) → Grows w.history (unless_refused o w (turn w st).world).history
      by_refusal None = adds_grows w.history (turn w st).world.history (turn w st).effect (turn_true w st)
      by_refusal (Some r) = grows-refl w.history

  run_grows : (w : WorldState Weights) (sts : List (Step Weights)) → Grows w.history (run_from s w sts).history
  unfolding run_from
  run_grows w [] = grows-refl w.history
  run_grows w (st ∷ sts) = grows-trans w.history (after s w st).history (run_from s (after s w st) sts).history (after_grows w st) (run_grows (after s w st) sts)

  -- what a step of a run tells
  abbrev pub result : WorldState Weights → Step Weights → Result (Effect Weights) Refusal
  result w st = result_of (refusal s w st) w st

  result_stays : (w : WorldState Weights) (st : Step Weights) → Stays (after s w st).history (result w st)
  unfolding after
  result_stays w st = by_refusal (refusal s w st)
    where
      by_refusal : (o : Option Refusal) → Stays (unless_refused o w (turn w st).world).history (result_of o w st)
      by_refusal None = told_stays (turn w st).world.history (turn w st).effect (adds_told w.history (turn w st).world.history (turn w st).effect (turn_true w st))
      by_refusal (Some r) = λ k n more. refl

  -- of each step what is told right after it, from a number on
  abbrev pub told_along : WorldState Weights → ℕ → List (Step Weights) → List Item
  told_along w n [] = []
  told_along w n (st ∷ sts) = step_items (after s w st).history n (result w st) ++ told_along (after s w st) (n + 1) sts

  -- it is what is told at the end
  pub told_at_end : (w : WorldState Weights) (n : ℕ) (sts : List (Step Weights)) → told_along w n sts ≡ steps_items (run_from s w sts).history n (results_from s w sts)
  unfolding run_from results_from
  told_at_end w n [] = refl
  told_at_end w n (st ∷ sts) =
      let next = after s w st in
      λ i. sym (result_stays w st (run_from s next sts).history n (run_grows next sts)) i ++ told_at_end next (n + 1) sts i

  -- and of one step more
  pub told_more : (w : WorldState Weights) (n m : ℕ) (sts : List (Step Weights)) (st : Step Weights) → m ≡ n + length sts
      → told_along w n (sts ++ st ∷ []) ≡ told_along w n sts ++ step_items (after s (run_from s w sts) st).history m (result (run_from s w sts) st)
  unfolding run_from
  told_more w n m [] st e =
      let here : n ≡ m = omega (arith, e) in
      append-nil (step_items (after s w st).history n (result w st)) ∙ ap (λ k. step_items (after s w st).history k (result w st)) here
  told_more w n m (x ∷ sts) st e =
      let next = after s w x in
      let first = step_items next.history n (result w x) in
      ap (λ is. first ++ is) (told_more next (n + 1) m sts st (omega (arith, e)))
      ∙ sym (append_assoc first (told_along next (n + 1) sts) (step_items (after s (run_from s next sts) st).history m (result (run_from s next sts) st)))

  -- the history after a step has its call or its answer, and what is told else is noted
  step_parts : (w : WorldState Weights) (st : Step Weights) (n : ℕ) → IsWellFormed (after s w st).history → Parts w.history (after s w st).history (step_items (after s w st).history n (result w st)) (other_items n (result w st))
  unfolding after
  step_parts w st n = by_refusal (refusal s w st)
    where
      by_refusal : (o : Option Refusal) → IsWellFormed (unless_refused o w (turn w st).world).history
          → Parts w.history (unless_refused o w (turn w st).world).history (step_items (unless_refused o w (turn w st).world).history n (result_of o w st)) (other_items n (result_of o w st))
      by_refusal None well = adds_parts w.history (turn w st).world.history (turn w st).effect n (turn_true w st) well
      by_refusal (Some r) well = inl (refl, refl)

  -- the text of the events and the notes after one step more
  pub woven_next : (first : WorldState Weights) (sts : List (Step Weights)) (st : Step Weights) (w next : WorldState Weights) (number : ℕ) (ns more : List NoteState)
      → w ≡ run_from s first sts → next ≡ after s w st → number ≡ length sts + 1 → IsWellFormed next.history
      → events_before ns ≤ length w.history → woven w.history ns ≡ items_text (told_along first 1 sts)
      → more ≡ noted ns (length next.history) (other_items number (result w st))
      → (woven next.history more ≡ items_text (told_along first 1 (sts ++ st ∷ []))) × (events_before more ≤ length next.history)
  woven_next first sts st w next number ns more is goes counted well within before now =
      let told = step_items next.history number (result w st) in
      let parts : Parts w.history next.history told (other_items number (result w st)) =
      subst (λ (k : WorldState Weights). Parts w.history k.history (step_items k.history number (result w st)) (other_items number (result w st))) (sym goes)
      (step_parts w st number (subst (λ (k : WorldState Weights). IsWellFormed k.history) goes well)) in
      let on = parts_on w.history next.history ns told (other_items number (result w st)) parts within in
      let there : step_items (after s (run_from s first sts) st).history number (result (run_from s first sts) st) ≡ told =
      ap (λ w. step_items (after s w st).history number (result w st)) (sym is) ∙ ap (λ (k : WorldState Weights). step_items k.history number (result w st)) (sym goes) in
      let whole : told_along first 1 (sts ++ st ∷ []) ≡ told_along first 1 sts ++ told = told_more first 1 number sts st (omega (arith, counted)) ∙ ap (λ is. told_along first 1 sts ++ is) there in (
        ap (woven next.history) now ∙ on.0 ∙ ap (λ t. t ++ items_text told) before ∙ sym (items-append (told_along first 1 sts) told) ∙ ap items_text (sym whole),
        subst (λ ms. events_before ms ≤ length next.history) (sym now) on.1,
      )

  -- behind the steps the sequences, the order of all keys and the maps
  pub text_whole : (version : Version) (founders : Weights) (sts : List (Step Weights)) (w : WorldState Weights) (a b c d : List ℕ)
      → w ≡ run_from s (first_world s founders) sts → a ≡ head_text version ++ items_text (told_along (first_world s founders) 1 sts)
      → b ≡ a ++ items_text (map Ordered (given_sequences w)) → c ≡ b ++ items_text (order_items_in version (given_order w)) → d ≡ c ++ items_text (map map_item (maps_of w.nodes))
      → d ≡ outcome_lines version (outcome_of s founders sts)
  unfolding outcome_of run
  text_whole version founders sts w a b c d is steps first second third =
      let first_w = first_world s founders in
      let o = outcome_at (results_from s first_w sts) (run_from s first_w sts) in
      whole_text version o (head_text version) a b c d refl
      (steps ∙ ap (λ is. head_text version ++ items_text is) (told_at_end first_w 1 sts))
      (first ∙ ap (λ (w : WorldState Weights). a ++ items_text (map Ordered (given_sequences w))) is)
      (second ∙ ap (λ (w : WorldState Weights). b ++ items_text (order_items_in version (given_order w))) is)
      (third ∙ ap (λ (w : WorldState Weights). c ++ items_text (map map_item (maps_of w.nodes))) is)
