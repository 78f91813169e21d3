-- What was answered before a call was made, by places
use Rattle.std.proofs.Common.{◌≡◌, ℕ, suc, List, [], ◌∷◌, ◌++◌, Bool, true, false, cond, Option, None, Some, is_some, refl, sym, ap, ◌∙◌, subst, arith}
use Rattle.std.specs.Option.{option_map}
use Rattle.std.proofs.lemmas.Bool.Decides.{nat_tests}
use Rattle.rambo_history.specs.declared.operation.Op.{Op}
use Rattle.rambo_history.specs.declared.event.CallId.{CallId}
use Rattle.rambo_history.specs.declared.event.Event.{Event}
use Rattle.rambo_history.specs.declared.event.Event.TheVariants as event
use Rattle.rambo_history.specs.Calls.{same_call}
use Rattle.rambo_history.specs.Forms.{CallsOnce}
use Rattle.rambo_history.specs.Histories.{call_in, answered_before, is_call, is_answer, called_at, answered_at, is_before}
use Rattle.rambo_history.proofs.LookUps.{position-cons}
use Rattle.rambo_history.proofs.Pushes.{same_call-path, same_call-refl, called_at-none}

pub once-tail : (e : Event) (es : List Event) → CallsOnce (e ∷ es) → CallsOnce es
once-tail (event.Call d p) es once front x back split c o is =
    step (same_call d c) (call_in front c) (once (event.Call d p ∷ front) x back (ap (λ l. event.Call d p ∷ l) split) c o is)
  where
    step : (t : Bool) (q : Option Op) → cond t (Some p) q ≡ None → q ≡ None
    step true q e = cc
    step false q e = e
once-tail (event.Answer d a) es once front x back split c o is = once (event.Answer d a ∷ front) x back (ap (λ l. event.Answer d a ∷ l) split) c o is

-- where a call's first event stands
call_split : (h : List Event) (c : CallId) (o : Op) → call_in h c ≡ Some o
    → (front : List Event) × (back : List Event) × (h ≡ front ++ event.Call c o ∷ back)
call_split [] c o e = cc
call_split (event.Answer d a ∷ es) c o e =
    let s = call_split es c o e in (event.Answer d a ∷ s.0, s.1, ap (λ l. event.Answer d a ∷ l) s.2)
call_split (event.Call d p ∷ es) c o e =
    step (call_split es c o) (same_call d c) (same_call-path d c) e
  where
    step : (call_in es c ≡ Some o → (front : List Event) × (back : List Event) × (es ≡ front ++ event.Call c o ∷ back))
        → (t : Bool) → (t ≡ true → d ≡ c) → cond t (Some p) (call_in es c) ≡ Some o
        → (front : List Event) × (back : List Event) × (event.Call d p ∷ es ≡ front ++ event.Call c o ∷ back)
    step rest true same e = let q = same refl in let r : p ≡ o = cc in ([], es, λ i. event.Call (q i) (r i) ∷ es)
    step rest false same e = let s = rest e in (event.Call d p ∷ s.0, s.1, ap (λ l. event.Call d p ∷ l) s.2)

-- behind its call a history doesn't have the call again
pub once-head : (c : CallId) (p : Op) (es : List Event) → CallsOnce (event.Call c p ∷ es) → call_in es c ≡ None
once-head c p es once =
    elim (call_in es c) as (λ o. call_in es c ≡ o → o ≡ None) [
      | None ↦ λ _. refl
      | Some o ↦ λ is.
          let s = call_split es c o is in
          absurd (stood (call_in s.0 c) (same_call c c) (same_call-refl c) (once (event.Call c p ∷ s.0) (event.Call c o) s.1 (ap (λ l. event.Call c p ∷ l) s.2) c o refl))
    ] refl
  where
    stood : (q : Option Op) (t : Bool) → t ≡ true → cond t (Some p) q ≡ None → ⊥
    stood q true same e = cc
    stood q false same e = cc

-- whether one place is there and stands before another
abbrev pub precedes : Option ℕ → Option ℕ → Bool
precedes o None = false
precedes o (Some n) = is_before n o

precedes-suc : (o p : Option ℕ) → precedes (option_map suc o) (option_map suc p) ≡ precedes o p
precedes-suc None None = refl
precedes-suc (Some m) None = refl
precedes-suc None (Some n) = refl
precedes-suc (Some m) (Some n) = grind (arith, nat_tests)

precedes-first : (o : Option ℕ) → precedes (option_map suc o) (Some 0) ≡ false
precedes-first None = refl
precedes-first (Some m) = grind (arith, nat_tests)

first-precedes : (p : Option ℕ) → precedes (Some 0) (option_map suc p) ≡ is_some p
first-precedes None = refl
first-precedes (Some n) = grind (arith, nat_tests)

mapped : (o : Option ℕ) → is_some (option_map suc o) ≡ is_some o
mapped None = refl
mapped (Some m) = refl

is_some-called_at : (h : List Event) (c : CallId) → is_some (called_at h c) ≡ is_some (call_in h c)
is_some-called_at [] c = refl
is_some-called_at (event.Call d p ∷ es) c =
    ap is_some (position-cons (is_call c) (event.Call d p) es) ∙ step (is_some-called_at es c) (same_call d c)
  where
    step : is_some (called_at es c) ≡ is_some (call_in es c) → (t : Bool) → is_some (cond t (Some 0) (option_map suc (called_at es c))) ≡ is_some (cond t (Some p) (call_in es c))
    step same true = refl
    step same false = mapped (called_at es c) ∙ same
is_some-called_at (event.Answer d a ∷ es) c =
    ap is_some (position-cons (is_call c) (event.Answer d a) es) ∙ mapped (called_at es c) ∙ is_some-called_at es c

-- c was answered before d was called where the answer's place is the less
pub answered_before-places : (h : List Event) → CallsOnce h → (c d : CallId) → answered_before h c d ≡ precedes (answered_at h c) (called_at h d)
answered_before-places [] once c d = refl
answered_before-places (event.Call x p ∷ es) once c d =
    answered_before-places es (once-tail (event.Call x p) es once) c d
    ∙ step (same_call x d) (λ same. called_at-none es d (subst (λ y. call_in es y ≡ None) (same_call-path x d same) (once-head x p es once)))
    ∙ sym (λ i. precedes (position-cons (is_answer c) (event.Call x p) es i) (position-cons (is_call d) (event.Call x p) es i))
  where
    step : (t : Bool) → (t ≡ true → called_at es d ≡ None)
        → precedes (answered_at es c) (called_at es d) ≡ precedes (option_map suc (answered_at es c)) (cond t (Some 0) (option_map suc (called_at es d)))
    step true none = ap (precedes (answered_at es c)) (none refl) ∙ sym (precedes-first (answered_at es c))
    step false none = sym (precedes-suc (answered_at es c) (called_at es d))
answered_before-places (event.Answer x a ∷ es) once c d =
    step (answered_before-places es (once-tail (event.Answer x a) es once) c d) (same_call x c)
    ∙ sym (λ i. precedes (position-cons (is_answer c) (event.Answer x a) es i) (position-cons (is_call d) (event.Answer x a) es i))
  where
    step : answered_before es c d ≡ precedes (answered_at es c) (called_at es d) → (t : Bool)
        → cond t (is_some (call_in es d)) (answered_before es c d) ≡ precedes (cond t (Some 0) (option_map suc (answered_at es c))) (option_map suc (called_at es d))
    step same true = sym (is_some-called_at es d) ∙ sym (first-precedes (called_at es d))
    step same false = same ∙ sym (precedes-suc (answered_at es c) (called_at es d))
