-- A call is made before it is answered
use Rattle.std.proofs.Common.{◌≡◌, ℕ, ◌-◌, List, [], ◌∷◌, ◌++◌, Bool, true, false, cond, Option, None, Some, is_some, refl, sym, ap, ◌∙◌, subst, append_assoc, true≢false, arith}
use Rattle.std.proofs.lemmas.Bool.Decides.{nat_tests}
use Rattle.std.specs.Option.{IsSomeAnd}
use Rattle.rambo_history.specs.declared.operation.Op.{Op}
use Rattle.rambo_history.specs.declared.event.CallId.{CallId}
use Rattle.rambo_history.specs.declared.event.Event.{Event}
use Rattle.rambo_history.specs.declared.event.Event.TheVariants as event
use Rattle.rambo_history.specs.Calls.{same_call}
use Rattle.rambo_history.specs.Forms.{CallsOnce, IsWellFormed}
use Rattle.rambo_history.specs.Histories.{call_in, answered_before, called_at, answered_at, is_before}
use Rattle.rambo_atomic.specs.Findings.{is_from}
use Rattle.rambo_history.proofs.AnsweredBefore.{once-tail, once-head, precedes, answered_before-places}
use Rattle.rambo_history.proofs.LookUps.{either, call_in-append}
use Rattle.rambo_history.proofs.Pushes.{same_call-path}

some-and : (o : Option Op) (P : Op → Type 0) → IsSomeAnd o P → is_some o ≡ true
some-and None P h = absurd h
some-and (Some op) P h = refl

-- behind its call a history doesn't have a call again
never-again : (c : CallId) (front es : List Event) → CallsOnce (front ++ es) → is_some (call_in front c) ≡ true → call_in es c ≡ None
never-again c [] es once made = absurd (true≢false (sym made))
never-again c (event.Answer d a ∷ front) es once made = never-again c front es (once-tail (event.Answer d a) (front ++ es) once) made
never-again c (event.Call d p ∷ front) es once made =
    here (never-again c front es (once-tail (event.Call d p) (front ++ es) once)) (same_call d c) (same_call-path d c) made
  where
    last : (o q : Option Op) → either o q ≡ None → q ≡ None
    last None q e = e
    last (Some op) q e = cc

    here : (is_some (call_in front c) ≡ true → call_in es c ≡ None) → (t : Bool) → (t ≡ true → d ≡ c) → is_some (cond t (Some p) (call_in front c)) ≡ true → call_in es c ≡ None
    here behind true same _ =
        last (call_in front c) (call_in es c) (sym (call_in-append front es c) ∙ once-head c p (front ++ es) (subst (λ x. CallsOnce (event.Call x p ∷ front ++ es)) (same refl) once))
    here behind false same e = behind e

not-before-itself : (h : List Event) → IsWellFormed h → (c : CallId) (front es : List Event) → h ≡ front ++ es → answered_before es c c ≡ false
not-before-itself h well c front [] e = refl
not-before-itself h well c front (event.Call d p ∷ es) e =
    not-before-itself h well c (front ++ event.Call d p ∷ []) es (e ∙ sym (append_assoc front (event.Call d p ∷ []) es))
not-before-itself h well c front (event.Answer d a ∷ es) e =
    here (not-before-itself h well c (front ++ event.Answer d a ∷ []) es (e ∙ sym (append_assoc front (event.Answer d a ∷ []) es))) (same_call d c) (same_call-path d c)
  where
    here : answered_before es c c ≡ false → (t : Bool) → (t ≡ true → d ≡ c) → cond t (is_some (call_in es c)) (answered_before es c c) ≡ false
    here behind true same =
        let made = some-and (call_in front d) _ (well.answers_open front (event.Answer d a) es e d a refl).0 in
        ap is_some (never-again c front (event.Answer d a ∷ es) (subst CallsOnce e well.calls_once) (subst (λ x. is_some (call_in front x) ≡ true) (same refl) made))
    here behind false same = behind

behind : (n : ℕ) (o p : Option ℕ) → is_from n o ≡ true → precedes p o ≡ false → is_before (n - 1) p ≡ false
behind n None p e f = absurd (true≢false (sym e))
behind n (Some k) None e f = refl
behind n (Some k) (Some m) e f = grind (arith, nat_tests)

-- what was made at place n or later wasn't answered before it
pub answered-behind : (h : List Event) → IsWellFormed h → (c : CallId) (n : ℕ) → is_from n (called_at h c) ≡ true → is_before (n - 1) (answered_at h c) ≡ false
answered-behind h well c n e =
    behind n (called_at h c) (answered_at h c) e (sym (answered_before-places h well.calls_once c c) ∙ not-before-itself h well c [] h refl)
