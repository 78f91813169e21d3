-- Runs of one step more, and what they give
use Rattle.std.proofs.Common.{◌≡◌, ◌+◌, ◌<◌, take, get_or, ℕ, List, [], ◌∷◌, ◌++◌, length, None, Result, Ok, Err, IfOk, refl, sym, ap, ◌∙◌, subst}
use Rattle.std.proofs.lemmas.List.{take_more}
use Rattle.rambo_names.specs.declared.refusal.Refusal.{Refusal}
use Rattle.rambo_names.specs.Quorums.{QuorumSystem, IsSound}
use Rattle.rambo_history.specs.Proper.{IsProper, IsProperForAll}
use Rattle.rambo_history.specs.declared.event.CallId.{CallId}
use Rattle.rambo_history.specs.declared.event.Event.{Event}
use Rattle.rambo_sequence.specs.Sequences.{sequence_in, SequenceOf}
use Rattle.rambo_sequence.specs.StoreOrders.{IsOrder, order_of}
use Rattle.rambo_sequence.proofs.Outcomes.{sequence_in-sequences_of}
use Rattle.rambo_node.specs.declared.effect.Effect.{Effect}
use Rattle.rambo_node.specs.Steps.{Step}
use Rattle.rambo_run.specs.Worlds.{WorldState, first_world}
use Rattle.rambo_run.specs.Steps.{Turn, refusal, turn}
use Rattle.rambo_run.specs.Runs.{MapOf, maps_of, given_sequences, after, run_from, run, result_of, results_from, outcome_at, outcome_of, OutcomeState}
use Rattle.rambo_run.proofs.Runs.{run_from-more}
use Rattle.rambo_run.proofs.GoingOn.{run_is, run-more}
use Rattle.rambo_run.proofs.EveryRun.{is_atomic}
use Rattle.rambo_run.proofs.StoreOrder.{has_one_order}
use Rattle.rambo_run.specs.Ongoing.{RunningOf}

pub results_from-none : {Q : Type 0} (s : QuorumSystem Q) (w : WorldState Q) → results_from s w [] ≡ []
unfolding results_from
results_from-none s w = refl

-- a step of a world that steps made
pub kept_run : {Q : Type 0} (s : QuorumSystem Q) (founders : Q) (old : List (Step Q)) (st : Step Q) (w new : WorldState Q) (e : Effect Q) (steps : List (Step Q))
    → w ≡ run s founders old → refusal s w st ≡ None → turn w st ≡ record { world = new; effect = e } → steps ≡ old ++ st ∷ [] → new ≡ run s founders steps
kept_run s founders old st w new e steps is accepted done more =
    ap (λ (t : Turn _). t.world) (sym done)
    ∙ ap (λ w. (turn w st).world) is
    ∙ sym (run-more s founders old st (subst (λ w. refusal s w st ≡ None) is accepted))
    ∙ ap (run s founders) (sym more)

-- the outcome of a run
pub outcome_is : {Q : Type 0} (s : QuorumSystem Q) (founders : Q) (ss : List (Step Q)) (first w : WorldState Q) (effects : List (Result (Effect Q) Refusal))
    → first ≡ first_world s founders → effects ≡ results_from s first ss → w ≡ run_from s first ss → outcome_at effects w ≡ outcome_of s founders ss
unfolding outcome_of
outcome_is s founders ss first w effects is told then =
    λ i. outcome_at ((told ∙ ap (λ w. results_from s w ss) is) i) ((then ∙ ap (λ w. run_from s w ss) is ∙ sym (run_is s founders ss)) i)

-- whose sequences are proper
pub outcome_proper : {Q : Type 0} (s : QuorumSystem Q) → IsSound s → (founders : Q) (ss : List (Step Q)) (o : OutcomeState Q) → o ≡ outcome_of s founders ss
    → (key : List ℕ) → IsProper o.history key (sequence_in o.sequences key)
unfolding outcome_of
outcome_proper s law founders ss o is key =
    let w = run s founders ss in
    subst (λ (o : OutcomeState _). IsProper o.history key (sequence_in o.sequences key)) (sym is)
    (subst (IsProper w.history key) (sym (sequence_in-sequences_of w.history w.marks key)) (is_atomic s law founders ss key))

-- and so for the outcome that there is, if there is one
pub told_outcome : {Q : Type 0} (s : QuorumSystem Q) (founders : Q) (ss : List (Step Q)) (first : WorldState Q) (r : Result (OutcomeState Q) Refusal)
    → first ≡ first_world s founders → IfOk r (λ o. o ≡ outcome_at (results_from s first ss) (run_from s first ss)) → IfOk r (λ o. o ≡ outcome_of s founders ss)
told_outcome s founders ss first (Ok o) is e = e ∙ outcome_is s founders ss first _ _ is refl refl
told_outcome s founders ss first (Err f) is e = e

-- the same where the world of the founders is that of a run that goes on
pub run_outcome : {Q : Type 0} (s : QuorumSystem Q) (founders : Q) (ss : List (Step Q)) (v : RunningOf Q) (r : Result (OutcomeState Q) Refusal)
    → v ≡ record { founders = founders; state = first_world s founders } → IfOk r (λ o. o ≡ outcome_at (results_from s v.state ss) (run_from s v.state ss)) → IfOk r (λ o. o ≡ outcome_of s founders ss)
run_outcome s founders ss v r is e = told_outcome s founders ss v.state r (ap (λ (v : RunningOf _). v.state) is) e

pub told_proper : {Q : Type 0} (s : QuorumSystem Q) → IsSound s → (founders : Q) (ss : List (Step Q)) (r : Result (OutcomeState Q) Refusal)
    → IfOk r (λ o. o ≡ outcome_of s founders ss) → IfOk r (λ o. (key : List ℕ) → IsProper o.history key (sequence_in o.sequences key))
told_proper s law founders ss (Ok o) e = outcome_proper s law founders ss o e
told_proper s law founders ss (Err f) e = e

-- and whose one order explains all keys
pub outcome_ordered : {Q : Type 0} (s : QuorumSystem Q) → IsSound s → (founders : Q) (ss : List (Step Q)) (r : Result (OutcomeState Q) Refusal)
    → IfOk r (λ o. o ≡ outcome_of s founders ss) → IfOk r (λ o. IsOrder o.history o.sequences o.order)
unfolding outcome_of
outcome_ordered s law founders ss (Ok o) e = subst (λ (o : OutcomeState _). IsOrder o.history o.sequences o.order) (sym e) (has_one_order s law founders ss).is_order
outcome_ordered s law founders ss (Err f) e = e

pub outcome_explained : {Q : Type 0} (s : QuorumSystem Q) → IsSound s → (founders : Q) (ss : List (Step Q)) (r : Result (OutcomeState Q) Refusal)
    → IfOk r (λ o. o ≡ outcome_of s founders ss) → IfOk r (λ o. IsProperForAll o.history o.order)
unfolding outcome_of
outcome_explained s law founders ss (Ok o) e = subst (λ (o : OutcomeState _). IsProperForAll o.history o.order) (sym e) (has_one_order s law founders ss).proper
outcome_explained s law founders ss (Err f) e = e

-- the results of one step more
results_from-more : {Q : Type 0} (s : QuorumSystem Q) (w : WorldState Q) (sts : List (Step Q)) (st : Step Q)
    → results_from s w (sts ++ st ∷ []) ≡ results_from s w sts ++ result_of (refusal s (run_from s w sts) st) (run_from s w sts) st ∷ []
unfolding results_from run_from
results_from-more s w [] st = refl
results_from-more s w (x ∷ sts) st = ap (λ rs. result_of (refusal s w x) w x ∷ rs) (results_from-more s (after s w x) sts st)

module _ {Q : Type 0} (s : QuorumSystem Q) (w : WorldState Q) (steps : List (Step Q)) (i : ℕ) (x : Step Q) (below : i < length steps) (is : x ≡ get_or steps i x) (now : WorldState Q) (then : now ≡ run_from s w (take i steps)) where
  next_steps : take (i + 1) steps ≡ take i steps ++ x ∷ []
  next_steps = take_more steps i x below ∙ ap (λ x. take i steps ++ x ∷ []) (sym is)

  pub next_state : (new : WorldState Q) → new ≡ after s now x → new ≡ run_from s w (take (i + 1) steps)
  next_state new e = e ∙ ap (λ w. after s w x) then ∙ sym (run_from-more s w (take i steps) x) ∙ ap (run_from s w) (sym next_steps)

  pub next_results : (results new : List (Result (Effect Q) Refusal)) (r : Result (Effect Q) Refusal) → results ≡ results_from s w (take i steps) → r ≡ result_of (refusal s now x) now x → new ≡ results ++ r ∷ []
      → new ≡ results_from s w (take (i + 1) steps)
  next_results results new r told e more =
      more ∙ (λ k. told k ++ (e ∙ ap (λ w. result_of (refusal s w x) w x) then) k ∷ []) ∙ sym (results_from-more s w (take i steps) x) ∙ ap (results_from s w) (sym next_steps)

-- an outcome by its parts
pub outcome_made : {Q : Type 0} (effects : List (Result (Effect Q) Refusal)) (w : WorldState Q) (history : List Event) (sequences : List SequenceOf) (order : List CallId) (maps : List (MapOf Q))
    → history ≡ w.history → sequences ≡ given_sequences w → order ≡ order_of w.history sequences → maps ≡ maps_of w.nodes
    → record { effects = effects; history = history; sequences = sequences; order = order; maps = maps } ≡ outcome_at effects w
outcome_made effects w history sequences order maps h s o m =
    λ i. record { effects = effects; history = h i; sequences = s i; order = (o ∙ ap (order_of w.history) s) i; maps = m i }
