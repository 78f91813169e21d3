-- Whoever was answered had called
use Rattle.std.proofs.Common.{◌≡◌, List, [], ◌∷◌, ◌++◌, Bool, true, false, cond, Option, Some, None, refl, ap, ◌∙◌, subst}
use Rattle.std.specs.Option.{IsSomeAnd}
use Rattle.rambo_history.specs.declared.operation.Op.{Op}
use Rattle.rambo_history.specs.declared.operation.Answer.{Answer}
use Rattle.rambo_history.specs.declared.event.CallId.{CallId}
use Rattle.rambo_history.specs.declared.event.Event.{Event}
use Rattle.rambo_history.specs.declared.event.Event.TheVariants as event
use Rattle.rambo_history.specs.Calls.{same_call}
use Rattle.rambo_history.specs.Forms.{IsWellFormed}
use Rattle.rambo_history.specs.Histories.{call_in, answer_in}
use Rattle.rambo_history.proofs.LookUps.{either, call_in-append}
use Rattle.rambo_history.proofs.Pushes.{same_call-path}

pub some_and : {A : Type 0} (P : A → Type 0) (o : Option A) → IsSomeAnd o P → (a : A) × (o ≡ Some a) × P a
some_and P None h = absurd h
some_and P (Some a) h = (a, refl, h)

pub call_kept : (h es : List Event) (c : CallId) (o : Op) → call_in h c ≡ Some o → call_in (h ++ es) c ≡ Some o
call_kept h es c o e = call_in-append h es c ∙ ap (λ p. either p (call_in es c)) e

-- where an answer stands
pub record AnswerAt (es : List Event) (c : CallId) : Type 0 where
  pub front : List Event
  pub who : CallId
  pub answer : Answer
  pub back : List Event
  pub whole : es ≡ front ++ event.Answer who answer ∷ back
  pub same : who ≡ c

pub found_answer : (es : List Event) (c : CallId) (b : Answer) → answer_in es c ≡ Some b → AnswerAt es c
found_answer [] c b e = cc
found_answer (event.Call d p ∷ es) c b e =
    let r = found_answer es c b e in
    record { front = event.Call d p ∷ r.front; who = r.who; answer = r.answer; back = r.back; whole = ap (λ l. event.Call d p ∷ l) r.whole; same = r.same }
found_answer (event.Answer d a ∷ es) c b e =
    step (found_answer es c b) (same_call d c) (same_call-path d c) e
  where
    step : (answer_in es c ≡ Some b → AnswerAt es c) → (t : Bool) → (t ≡ true → d ≡ c) → cond t (Some a) (answer_in es c) ≡ Some b → AnswerAt (event.Answer d a ∷ es) c
    step later true same e = record { front = []; who = d; answer = a; back = es; whole = refl; same = same refl }
    step later false same e =
        let r = later e in
        record { front = event.Answer d a ∷ r.front; who = r.who; answer = r.answer; back = r.back; whole = ap (λ l. event.Answer d a ∷ l) r.whole; same = r.same }

pub answered_called : (h : List Event) → IsWellFormed h → (c : CallId) (b : Answer) → answer_in h c ≡ Some b → (p : Op) × (call_in h c ≡ Some p)
answered_called h w c b e =
    let r = found_answer h c b e in
    let made = some_and _ (call_in r.front r.who) ((w.answers_open r.front (event.Answer r.who r.answer) r.back r.whole r.who r.answer refl).0) in
    (made.0, ap (λ h. call_in h c) r.whole ∙ call_kept r.front (event.Answer r.who r.answer ∷ r.back) c made.0 (subst (λ d. call_in r.front d ≡ Some made.0) r.same made.1))
