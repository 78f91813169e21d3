-- What taking an answer says of what the client has then seen
use Rattle.std.proofs.Common.{◌≡◌, ◌⊎◌, Bool, false, Option, Some, None, MatchOption, Result, Ok, Err, OnOk, IfOk, IfErr, sym, ◌∙◌, subst, inl, inr}
use mathlib.Core.List.{IsPrefix}
use Rattle.rambo_names.specs.declared.refusal.Refusal.{Refusal}
use Rattle.rambo_names.specs.declared.refusal.Refusal.TheVariants.{OutOfMemory, NoSuchCall, Stopped}
use Rattle.rambo_names.specs.Quorums.{QuorumSystem}
use Rattle.rambo_history.specs.declared.event.CallId.{CallId}
use Rattle.rambo_history.specs.declared.operation.Answer.{Answer}
use Rattle.rambo_history.specs.Histories.{answer_in}
use Rattle.rambo_run.specs.Runs.{run}
use Rattle.rambo_run.proofs.Lists.{some_inj}
use Rattle.rambo_book.specs.Kept.{BookView, state}
use Rattle.rambo_run.specs.Legal.{IsLegal}
use Rattle.rambo_pass.specs.Passes.{PassView, IsNone, IsOne, HasStopped, IsGoing, IsAnswered, IsAnsweredLater, WhyNot}

module _ {Q : Type 0} (s : QuorumSystem Q) (agreed : Option Q) (endless : Bool) (b : BookView Q) (before after : PassView Q) (id : CallId) (founded : agreed ≡ Some b.founders) where
  pub legal_of : {A : Type 0} (r : Result A Refusal) → OnOk r (IsLegal s b.founders after.seen) → OnOk r ((f : Q) → agreed ≡ Some f → IsLegal s f after.seen)
  legal_of (Ok a) h = λ f e. subst (λ f. IsLegal s f after.seen) (some_inj b.founders f (sym founded ∙ e)) h
  legal_of (Err r) h = h

  pub answer_of : (r : Result (Option Answer) Refusal) → OnOk r (after.seen ≡ b.steps) → IfOk r (λ a. a ≡ answer_in (state s b).history id) → IfOk r (λ a. (f : Q) → agreed ≡ Some f → a ≡ answer_in (run s f after.seen).history id)
  answer_of (Ok a) seen h = λ f e. h ∙ λ i. answer_in (run s (some_inj b.founders f (sym founded ∙ e) i) (sym seen i)).history id
  answer_of (Err r) seen h = h

  pub given_of : (r : Result (Option Answer) Refusal) → IfOk r (λ a. MatchOption a (after ≡ before) (λ _. after.seen ≡ b.steps)) → IsLegal s b.founders b.steps → IfOk r (λ a. a ≡ answer_in (state s b).history id)
      → IfOk r (λ a. MatchOption a (after ≡ before) (λ x. (f : Q) → agreed ≡ Some f → IsLegal s f after.seen × (answer_in (run s f after.seen).history id ≡ Some x)))
  given_of (Ok None) seen h is = seen
  given_of (Ok (Some a)) seen h is = λ f e. subst (λ f. IsLegal s f after.seen × (answer_in (run s f after.seen).history id ≡ Some a)) (some_inj b.founders f (sym founded ∙ e))
      (subst (λ l. IsLegal s b.founders l × (answer_in (run s b.founders l).history id ≡ Some a)) (sym seen) (h, sym is))
  given_of (Err r) seen h is = tt

  pub going_of : (r : Result (Option Answer) Refusal) → OnOk r (after.seen ≡ b.steps) → IfOk r (λ a. a ≡ None → IsGoing (state s b) id.name) → IfOk r (λ a. (f : Q) → agreed ≡ Some f → a ≡ None → IsGoing (run s f after.seen) id.name)
  going_of (Ok a) seen h = λ f e none. subst (λ f. IsGoing (run s f after.seen) id.name) (some_inj b.founders f (sym founded ∙ e)) (subst (λ l. IsGoing (run s b.founders l) id.name) (sym seen) (h none))
  going_of (Err r) seen h = h

  -- of want of memory it is told where the call has an answer in the steps of the book
  answered_later : IsLegal s b.founders b.steps → IsPrefix before.seen b.steps × IsAnswered (state s b) id → IsAnsweredLater s b.founders before.seen id
  answered_later legal h = record { later = b.steps; begins = h.0; legal = legal; answered = h.1 }

  pub why_not : {A : Type 0} (r : Result A Refusal) → IsLegal s b.founders b.steps → IfErr r (λ r. r ≡ OutOfMemory → endless ≡ false → IsPrefix before.seen b.steps × IsAnswered (state s b) id)
      → IfErr r (λ r. ((r ≡ OutOfMemory) × (after ≡ before) × IsOne before.mine id)
      ⊎ (((r ≡ NoSuchCall) × (after ≡ before) × IsNone before.mine id)
      ⊎ ((r ≡ Stopped) × IsOne before.mine id × (after.seen ≡ b.steps) × IsPrefix before.seen after.seen × (answer_in (state s b).history id ≡ None) × HasStopped (state s b) id.name)))
      → IfErr r (λ r. (f : Q) → agreed ≡ Some f → WhyNot s f endless before after id r)
  why_not (Ok a) legal answered h = tt
  why_not (Err r) legal answered h = λ f e. subst (λ f. WhyNot s f endless before after id r) (some_inj b.founders f (sym founded ∙ e)) (elim h [
    | inl m ↦ inl (m.0, (m.1, (m.2, λ bounded. answered_later legal (answered m.0 bounded))))
    | inr rest ↦ elim rest [
      | inl n ↦ inr (inl (n.0, (n.1, n.2)))
      | inr t ↦ inr (inr (
        t.0,
        (t.1, (t.3, subst (λ l. (answer_in (run s b.founders l).history id ≡ None) × HasStopped (run s b.founders l) id.name) (sym t.2) (t.4, t.5))),
      ))
    ]
  ])

  -- the same where the pass stays
  pub why_ungiven : {A : Type 0} (r : Result A Refusal) → IsLegal s b.founders b.steps → IfErr r (λ r. r ≡ OutOfMemory → endless ≡ false → IsPrefix before.seen b.steps × IsAnswered (state s b) id)
      → IfErr r (λ r. ((r ≡ OutOfMemory) × IsOne before.mine id) ⊎ ((r ≡ NoSuchCall) × IsNone before.mine id))
      → IfErr r (λ r. (f : Q) → agreed ≡ Some f → ((r ≡ OutOfMemory) × IsOne before.mine id × (endless ≡ false → IsAnsweredLater s f before.seen id)) ⊎ ((r ≡ NoSuchCall) × IsNone before.mine id))
  why_ungiven (Ok a) legal answered h = tt
  why_ungiven (Err r) legal answered h = λ f e. elim h [
    | inl m ↦ inl (m.0, m.1, λ bounded. subst (λ f. IsAnsweredLater s f before.seen id) (some_inj b.founders f (sym founded ∙ e)) (answered_later legal (answered m.0 bounded)))
    | inr n ↦ inr n
  ]

-- where an answer isn't given, the pass stays; so is told by a client who takes it
pub refused_so : {Q : Type 0} {before after : PassView Q} {id : CallId} {r : Refusal} {X : Type 0} → after ≡ before → ((r ≡ OutOfMemory) × IsOne before.mine id) ⊎ ((r ≡ NoSuchCall) × IsNone before.mine id)
    → ((r ≡ OutOfMemory) × (after ≡ before) × IsOne before.mine id) ⊎ (((r ≡ NoSuchCall) × (after ≡ before) × IsNone before.mine id) ⊎ X)
refused_so same h = elim h [
  | inl m ↦ inl (m.0, same, m.1)
  | inr n ↦ inr (inl (n.0, same, n.1))
]

-- so is told by a client who takes it from the run that the steps give
pub why_not_given : {Q : Type 0} (s : QuorumSystem Q) (f : Q) (endless : Bool) {before after : PassView Q} {id : CallId} {r : Refusal} → after ≡ before
    → ((r ≡ OutOfMemory) × IsOne before.mine id × (endless ≡ false → IsAnsweredLater s f before.seen id)) ⊎ ((r ≡ NoSuchCall) × IsNone before.mine id) → WhyNot s f endless before after id r
why_not_given s f endless same h = elim h [
  | inl m ↦ inl (m.0, (same, (m.1, m.2)))
  | inr n ↦ inr (inl (n.0, (same, n.1)))
]
