-- Worlds that some steps of a run lead to
use Rattle.std.proofs.Common.{◌≡◌, ℕ, List, [], ◌∷◌, ◌++◌, Result, Ok, Err, IfOk, OnOk, OnErr, refl, sym, ap, ◌∙◌, subst}
use Rattle.rambo_names.specs.declared.refusal.Refusal.{Refusal}
use Rattle.rambo_names.specs.Quorums.{QuorumSystem, IsSound}
use Rattle.rambo_history.specs.Proper.{IsProper, IsProperForAll}
use Rattle.rambo_sequence.specs.Sequences.{SequenceOf, sequence_in, sequence_of, sequences_of}
use Rattle.rambo_sequence.specs.StoreOrders.{IsOrder}
use Rattle.rambo_sequence.proofs.Outcomes.{sequence_in-sequences_of}
use Rattle.rambo_node.specs.Steps.{Step}
use Rattle.rambo_run.specs.Worlds.{WorldState, first_world}
use Rattle.rambo_run.specs.Runs.{OutcomeState, after, outcome_at, results_from, run_from}
use Rattle.rambo_run.proofs.EveryRun.{agrees, is_atomic}
use Rattle.rambo_run.proofs.StoreOrder.{has_one_order}
use Rattle.rambo_run.specs.Claims.{HasOneOrder}
use Rattle.rambo_run.specs.Ongoing.{RunningOf, IsReached, AgreesSoFar}
use Rattle.rambo_run.proofs.GoingOn.{run_is, run_none, run-after}
use Rattle.rambo_run.proofs.Legal.{events_fit_run, marks_fit_run}
use Rattle.rambo_world.specs.Worlds.{StepsFit}

pub reached_first : {Q : Type 0} (s : QuorumSystem Q) (founders : Q) (w : WorldState Q) → w ≡ first_world s founders → IsReached s founders w
reached_first s founders w first = ([], first ∙ sym (run_none s founders))

pub reached_next : {Q : Type 0} (s : QuorumSystem Q) (founders : Q) (w new : WorldState Q) (st : Step Q) → IsReached s founders w → new ≡ after s w st → IsReached s founders new
reached_next s founders w new st before e = (before.0 ++ st ∷ [], e ∙ ap (λ w. after s w st) before.1 ∙ sym (run-after s founders before.0 st))

-- whether or not there was room for the step
pub reached_on : {Q A B : Type 0} (s : QuorumSystem Q) (founders : Q) (w new : WorldState Q) (st : Step Q) (r : Result A B) → IsReached s founders w
    → OnOk r (new ≡ after s w st) → OnErr r (new ≡ w) → IsReached s founders new
reached_on s founders w new st (Ok x) before done same = reached_next s founders w new st before done
reached_on s founders w new st (Err e) before done same = subst (IsReached s founders) (sym same) before

-- the run of more steps
run-further : {Q : Type 0} (s : QuorumSystem Q) (w : WorldState Q) (sts more : List (Step Q)) → run_from s w (sts ++ more) ≡ run_from s (run_from s w sts) more
unfolding run_from
run-further s w [] more = refl
run-further s w (st ∷ sts) more = run-further s (after s w st) sts more

-- more steps lead on
pub reached_further : {Q : Type 0} (s : QuorumSystem Q) (founders : Q) (w : WorldState Q) (more : List (Step Q)) → IsReached s founders w → IsReached s founders (run_from s w more)
reached_further s founders w more reached = (
  reached.0 ++ more,
  ap (λ w. run_from s w more) (reached.1 ∙ run_is s founders reached.0) ∙ sym (run-further s (first_world s founders) reached.0 more) ∙ sym (run_is s founders (reached.0 ++ more)),
)

-- what steps append fits there
pub reached_fits : {Q : Type 0} (s : QuorumSystem Q) (founders : Q) (w : WorldState Q) → IsReached s founders w → StepsFit s w
reached_fits s founders w reached = subst (StepsFit s) (sym reached.1) (events_fit_run s founders reached.0, marks_fit_run s founders reached.0)

pub reached_fits_from : {Q : Type 0} (s : QuorumSystem Q) (founders : Q) (w : WorldState Q) → IsReached s founders w → (done : List (Step Q)) → StepsFit s (run_from s w done)
reached_fits_from s founders w reached done = reached_fits s founders (run_from s w done) (reached_further s founders w done reached)

-- the given sequences are proper
reached_proper : {Q : Type 0} (s : QuorumSystem Q) → IsSound s → (founders : Q) (w : WorldState Q) → IsReached s founders w
    → (key : List ℕ) → IsProper w.history key (sequence_in (sequences_of w.history w.marks) key)
reached_proper s law founders w reached key =
    subst (IsProper w.history key) (sym (sequence_in-sequences_of w.history w.marks key))
    (subst (λ (w : WorldState _). IsProper w.history key (sequence_of w.history w.marks key)) (sym reached.1) (is_atomic s law founders reached.0 key))

pub given_proper : {Q S : Type 0} (s : QuorumSystem Q) → IsSound s → (founders : Q) (w : WorldState Q) (items : S → List SequenceOf) (r : Result S Refusal) → IsReached s founders w
    → IfOk r (λ x. items x ≡ sequences_of w.history w.marks) → IfOk r (λ x. (key : List ℕ) → IsProper w.history key (sequence_in (items x) key))
given_proper s law founders w items (Ok x) reached e = λ key. subst (λ ss. IsProper w.history key (sequence_in ss key)) (sym e) (reached_proper s law founders w reached key)
given_proper s law founders w items (Err f) reached e = e

-- no two nodes hold different configurations
pub reached_agrees : {Q : Type 0} (s : QuorumSystem Q) → IsSound s → (founders : Q) (w : WorldState Q) → IsReached s founders w → AgreesSoFar s founders w
reached_agrees s law founders w reached = (reached, λ steps is. agrees s law founders steps)

pub reached_agrees_from : {Q : Type 0} (s : QuorumSystem Q) → IsSound s → (founders : Q) (w : WorldState Q) (more : List (Step Q)) → IsReached s founders w → AgreesSoFar s founders (run_from s w more)
reached_agrees_from s law founders w more reached = reached_agrees s law founders (run_from s w more) (reached_further s founders w more reached)

-- the outcome of more steps, if there is one, has proper sequences
pub reached_told : {Q : Type 0} (s : QuorumSystem Q) → IsSound s → (founders : Q) (w : WorldState Q) (more : List (Step Q)) (r : Result (OutcomeState Q) Refusal) → IsReached s founders w
    → IfOk r (λ o. o ≡ outcome_at (results_from s w more) (run_from s w more)) → IfOk r (λ o. (key : List ℕ) → IsProper o.history key (sequence_in o.sequences key))
reached_told s law founders w more (Ok o) reached e = λ key.
    subst (λ (o : OutcomeState _). IsProper o.history key (sequence_in o.sequences key)) (sym e) (reached_proper s law founders (run_from s w more) (reached_further s founders w more reached) key)
reached_told s law founders w more (Err f) reached e = e

-- and one order, which explains all keys
pub reached_one_order : {Q : Type 0} (s : QuorumSystem Q) → IsSound s → (founders : Q) (w : WorldState Q) (more : List (Step Q)) → IsReached s founders w → HasOneOrder (run_from s w more)
reached_one_order s law founders w more reached =
    let r = reached_further s founders w more reached in
    subst HasOneOrder (sym r.1) (has_one_order s law founders r.0)

pub reached_ordered : {Q : Type 0} (s : QuorumSystem Q) → IsSound s → (founders : Q) (w : WorldState Q) (more : List (Step Q)) (r : Result (OutcomeState Q) Refusal) → IsReached s founders w
    → IfOk r (λ o. o ≡ outcome_at (results_from s w more) (run_from s w more)) → IfOk r (λ o. IsOrder o.history o.sequences o.order)
reached_ordered s law founders w more (Ok o) reached e = subst (λ (o : OutcomeState _). IsOrder o.history o.sequences o.order) (sym e) (reached_one_order s law founders w more reached).is_order
reached_ordered s law founders w more (Err f) reached e = e

pub reached_explained : {Q : Type 0} (s : QuorumSystem Q) → IsSound s → (founders : Q) (w : WorldState Q) (more : List (Step Q)) (r : Result (OutcomeState Q) Refusal) → IsReached s founders w
    → IfOk r (λ o. o ≡ outcome_at (results_from s w more) (run_from s w more)) → IfOk r (λ o. IsProperForAll o.history o.order)
reached_explained s law founders w more (Ok o) reached e = subst (λ (o : OutcomeState _). IsProperForAll o.history o.order) (sym e) (reached_one_order s law founders w more reached).proper
reached_explained s law founders w more (Err f) reached e = e

-- what a step makes of a run that goes on
pub goes_on : {Q A B : Type 0} (s : QuorumSystem Q) (founders : Q) (w new : WorldState Q) (v : RunningOf Q) (st : Step Q) (r : Result A B) → record { founders = founders; state = w } ≡ v
    → OnOk r (new ≡ after s w st) → OnOk r (record { founders = founders; state = new } ≡ record v { state = after s v.state st })
goes_on s founders w new v st (Ok x) is e = λ i. record { founders = (is i).founders; state = (e ∙ ap (λ (v : RunningOf _). after s v.state st) is) i }
goes_on s founders w new v st (Err f) is e = e

pub stays : {Q A B : Type 0} (founders : Q) (w new : WorldState Q) (v : RunningOf Q) (r : Result A B) → record { founders = founders; state = w } ≡ v
    → OnErr r (new ≡ w) → OnErr r (record { founders = founders; state = new } ≡ v)
stays founders w new v (Ok x) is e = e
stays founders w new v (Err f) is e = (λ i. record { founders = founders; state = e i }) ∙ is
