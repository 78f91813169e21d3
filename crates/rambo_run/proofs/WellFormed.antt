-- The history of each run is well formed
use Rattle.std.proofs.Common.{◌≡◌, List, [], ◌∷◌, ◌++◌, None, Some, true, sym, ap, ◌∙◌, subst, append_assoc, append-nil, inl, inr}
use Rattle.rambo_names.specs.Quorums.{QuorumSystem}
use Rattle.rambo_history.specs.declared.event.Event.TheVariants as event
use Rattle.rambo_history.specs.declared.event.CallId.{CallId}
use Rattle.rambo_history.specs.declared.operation.Op.{Op}
use Rattle.rambo_history.specs.declared.operation.Answer.{Answer}
use Rattle.rambo_history.specs.Calls.{fits}
use Rattle.std.specs.Option.{IsSomeAnd}
use Rattle.rambo_history.specs.Histories.{call_in, answer_in}
use Rattle.rambo_history.specs.Forms.{IsWellFormed}
use Rattle.rambo_history.proofs.Splits.{splits-nil}
use Rattle.rambo_history.proofs.Pushes.{well_formed-push}
use Rattle.rambo_node.specs.Steps.{Step}
use Rattle.rambo_run.specs.Worlds.{WorldState, first_world}
use Rattle.rambo_run.specs.Steps.{refusal}
use Rattle.rambo_run.specs.Runs.{run}
use Rattle.rambo_run.proofs.Fitting.{events_fit}
use Rattle.rambo_run.proofs.GoingOn.{run_none, run-more, run-after, after-refused}

none_well : IsWellFormed []
none_well = record {
  calls_once = splits-nil (λ front e back. (c : CallId) (op : Op) → e ≡ event.Call c op → call_in front c ≡ None);
  answers_open = splits-nil (λ front e back. (c : CallId) (a : Answer) → e ≡ event.Answer c a → IsSomeAnd (call_in front c) (λ op. fits op a ≡ true) × (answer_in front c ≡ None));
}

module _ {Q : Type 0} (s : QuorumSystem Q) (founders : Q) where
  first_history : (first_world s founders).history ≡ []
  unfolding first_world
  first_history = λ i. []

  pub no_history : (run s founders []).history ≡ []
  no_history = ap (λ (w : WorldState Q). w.history) (run_none s founders) ∙ first_history

  one_more : (done : List (Step Q)) (st : Step Q) → IsWellFormed (run s founders done).history → IsWellFormed (run s founders (done ++ st ∷ [])).history
  one_more done st well =
      let w = run s founders done in
      elim (refusal s w st) as (λ r. refusal s w st ≡ r → IsWellFormed (run s founders (done ++ st ∷ [])).history) [
        | None ↦ λ e.
            let is = ap (λ (w : WorldState Q). w.history) (run-more s founders done st e) in
            elim (events_fit s founders done st) [
              | inl same ↦ subst IsWellFormed (sym (is ∙ same)) well
              | inr f ↦ subst IsWellFormed (sym (is ∙ f.history)) (well_formed-push w.history f.event well f.fault)
            ]
        | Some r ↦ λ e.
            subst (λ (w : WorldState Q). IsWellFormed w.history)
            (sym (run-after s founders done st ∙ after-refused s w st r e)) well
      ] (λ i. refusal s w st)

  several_more : (done more : List (Step Q)) → IsWellFormed (run s founders done).history → IsWellFormed (run s founders (done ++ more)).history
  several_more done [] well = subst (λ l. IsWellFormed (run s founders l).history) (sym (append-nil done)) well
  several_more done (st ∷ more) well =
      subst (λ l. IsWellFormed (run s founders l).history) (append_assoc done (st ∷ []) more) (several_more (done ++ st ∷ []) more (one_more done st well))

  pub run_well_formed : (steps : List (Step Q)) → IsWellFormed (run s founders steps).history
  run_well_formed steps = several_more [] steps (subst IsWellFormed (sym no_history) none_well)
