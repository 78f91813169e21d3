-- What a history says after one event more
use Rattle.std.proofs.Common.{◌≡◌, zero, suc, ◌<◌, ◌≤◌, ◌⊎◌, Bool, true, false, if◌then◌else◌, List, [], ◌∷◌, ◌++◌, length, Option, Some, None, is_some, refl, sym, ap, ◌∙◌, subst, inl, inr, ⊎_elim, arith, true≢false}
use Rattle.std.proofs.lemmas.Bool.{cond-true, cond-false}
use Rattle.rambo_history.specs.declared.operation.Op.{Op}
use Rattle.rambo_history.specs.declared.operation.Answer.{Answer}
use Rattle.rambo_history.specs.declared.event.CallId.{CallId}
use Rattle.rambo_history.specs.declared.event.Event.{Event}
use Rattle.rambo_history.specs.declared.event.Event.TheVariants as event
use Rattle.rambo_history.specs.Calls.{same_call}
use Rattle.rambo_history.specs.Histories.{call_in, answer_in, answered_before}
use Rattle.rambo_history.proofs.LookUps.{either, call_in-append, answer_in-append}
use Rattle.rambo_history.proofs.Pushes.{same_call-path, same_call-refl}
use Rattle.rambo_sequence.specs.Sequences.{call_place}
use Rattle.rambo_run.proofs.Lists.{pick, some_inj, none-some}
pub use Rattle.rambo_history.proofs.Asked.{call_kept}

pub none_or_some : {A : Type 0} (o : Option A) → (o ≡ None) ⊎ ((a : A) × (o ≡ Some a))
none_or_some None = inl refl
none_or_some (Some a) = inr (a, refl)

either_none : {A : Type 0} (o : Option A) → either o None ≡ o
either_none None = refl
either_none (Some a) = refl

either_cases : {A : Type 0} (o p : Option A) (a : A) → either o p ≡ Some a → (o ≡ Some a) ⊎ (p ≡ Some a)
either_cases None p a e = inr e
either_cases (Some b) p a e = inl e

if_some : {A : Type 0} (b : Bool) (a x : A) → (if b then Some a else None) ≡ Some x → (b ≡ true) × (a ≡ x)
if_some true a x e = (refl, some_inj a x e)
if_some false a x e = absurd (none-some x e)

pub answer_kept : (h es : List Event) (c : CallId) (a : Answer) → answer_in h c ≡ Some a → answer_in (h ++ es) c ≡ Some a
answer_kept h es c a e = answer_in-append h es c ∙ ap (λ p. either p (answer_in es c)) e

pub call_last : (h : List Event) (c : CallId) (o : Op) → call_in h c ≡ None → call_in (h ++ event.Call c o ∷ []) c ≡ Some o
call_last h c o e = call_in-append h (event.Call c o ∷ []) c ∙ ap (λ p. either p (call_in (event.Call c o ∷ []) c)) e ∙ cond-true (same_call c c) (Some o) None (same_call-refl c)

pub answer_last : (h : List Event) (c : CallId) (a : Answer) → answer_in h c ≡ None → answer_in (h ++ event.Answer c a ∷ []) c ≡ Some a
answer_last h c a e = answer_in-append h (event.Answer c a ∷ []) c ∙ ap (λ p. either p (answer_in (event.Answer c a ∷ []) c)) e ∙ cond-true (same_call c c) (Some a) None (same_call-refl c)

-- a call is an old one or the last
pub call_split : (h : List Event) (d c : CallId) (p o : Op) → call_in (h ++ event.Call d p ∷ []) c ≡ Some o → (call_in h c ≡ Some o) ⊎ ((d ≡ c) × (p ≡ o))
call_split h d c p o e = ⊎_elim inl (λ k. let r = if_some (same_call d c) p o k in inr (same_call-path d c r.0, r.1))
    (either_cases (call_in h c) (call_in (event.Call d p ∷ []) c) o (sym (call_in-append h (event.Call d p ∷ []) c) ∙ e))

pub answer_split : (h : List Event) (d c : CallId) (b a : Answer) → answer_in (h ++ event.Answer d b ∷ []) c ≡ Some a → (answer_in h c ≡ Some a) ⊎ ((d ≡ c) × (b ≡ a))
answer_split h d c b a e = ⊎_elim inl (λ k. let r = if_some (same_call d c) b a k in inr (same_call-path d c r.0, r.1))
    (either_cases (answer_in h c) (answer_in (event.Answer d b ∷ []) c) a (sym (answer_in-append h (event.Answer d b ∷ []) c) ∙ e))

pub call_still : (h : List Event) (d c : CallId) (a : Answer) → call_in (h ++ event.Answer d a ∷ []) c ≡ call_in h c
call_still h d c a = call_in-append h (event.Answer d a ∷ []) c ∙ either_none (call_in h c)

pub answer_still : (h : List Event) (d c : CallId) (o : Op) → answer_in (h ++ event.Call d o ∷ []) c ≡ answer_in h c
answer_still h d c o = answer_in-append h (event.Call d o ∷ []) c ∙ either_none (answer_in h c)

-- what was answered before a call
pub before_called : (h : List Event) (c d : CallId) → answered_before h c d ≡ true → (o : Op) × (call_in h d ≡ Some o)
before_called [] c d e = absurd (true≢false (sym e))
before_called (event.Call x p ∷ es) c d e =
    let r = before_called es c d e in
    elim (pick (same_call x d) (Some p) (call_in es d)) [ inl q ↦ (p, q.1) | inr q ↦ (r.0, q.1 ∙ r.1) ]
before_called (event.Answer x a ∷ es) c d e = elim (pick (same_call x c) (is_some (call_in es d)) (answered_before es c d)) [
  | inl q ↦ elim (none_or_some (call_in es d)) [ inl n ↦ absurd (true≢false (sym e ∙ q.1 ∙ ap is_some n)) | inr s ↦ s ]
  | inr q ↦ before_called es c d (sym q.1 ∙ e)
]

pub before_answered : (h : List Event) (c d : CallId) → answered_before h c d ≡ true → (a : Answer) × (answer_in h c ≡ Some a)
before_answered [] c d e = absurd (true≢false (sym e))
before_answered (event.Call x p ∷ es) c d e = before_answered es c d e
before_answered (event.Answer x a ∷ es) c d e = elim (pick (same_call x c) (Some a) (answer_in es c)) [
  | inl q ↦ (a, q.1)
  | inr q ↦ (let r = before_answered es c d (sym (cond-false (same_call x c) (is_some (call_in es d)) (answered_before es c d) q.0) ∙ e) in (r.0, q.1 ∙ r.1))
]

-- an answer at the end comes before no call
pub before_answer : (h : List Event) (c d x : CallId) (a : Answer) → answered_before (h ++ event.Answer x a ∷ []) c d ≡ answered_before h c d
before_answer [] c d x a = elim (pick (same_call x c) false false) [ inl p ↦ p.1 | inr p ↦ p.1 ]
before_answer (event.Call y p ∷ es) c d x a = before_answer es c d x a
before_answer (event.Answer y b ∷ es) c d x a = λ i. if same_call y c then is_some (call_still es x d a i) else before_answer es c d x a i

-- another call at the end changes nothing for d
pub before_call : (h : List Event) (c d x : CallId) (o : Op) → (x ≡ d → ⊥) → answered_before (h ++ event.Call x o ∷ []) c d ≡ answered_before h c d
before_call [] c d x o n = refl
before_call (event.Call y p ∷ es) c d x o n = before_call es c d x o n
before_call (event.Answer y b ∷ es) c d x o n =
    let none : call_in (event.Call x o ∷ []) d ≡ None = elim (pick (same_call x d) (Some o) None) [ inl p ↦ absurd (n (same_call-path x d p.0)) | inr p ↦ p.1 ] in
    let same : call_in (es ++ event.Call x o ∷ []) d ≡ call_in es d = call_in-append es (event.Call x o ∷ []) d ∙ ap (either (call_in es d)) none ∙ either_none (call_in es d) in
    λ i. if same_call y c then is_some (same i) else before_call es c d x o n i

-- the place of a call
pub place_there : (h : List Event) (c : CallId) (o : Op) → call_in h c ≡ Some o → call_place c h < length h
place_there [] c o e = absurd (none-some o e)
place_there (event.Call d p ∷ es) c o e = elim (pick (same_call d c) zero (suc (call_place c es))) [
  | inl q ↦ subst (λ n. n < suc (length es)) (sym q.1) (omega arith)
  | inr q ↦ (let r = place_there es c o (sym (cond-false (same_call d c) (Some p) (call_in es c) q.0) ∙ e) in subst (λ n. n < suc (length es)) (sym q.1) (omega (arith, r)))
]
place_there (event.Answer d a ∷ es) c o e = let r = place_there es c o e in omega (arith, r)

pub place_kept : (h more : List Event) (c : CallId) (o : Op) → call_in h c ≡ Some o → call_place c (h ++ more) ≡ call_place c h
place_kept [] more c o e = absurd (none-some o e)
place_kept (event.Call d p ∷ es) more c o e = elim (pick (same_call d c) zero (suc (call_place c es))) [
  | inl q ↦ cond-true (same_call d c) zero (suc (call_place c (es ++ more))) q.0 ∙ sym q.1
  | inr q ↦ cond-false (same_call d c) zero (suc (call_place c (es ++ more))) q.0 ∙ ap suc (place_kept es more c o (sym (cond-false (same_call d c) (Some p) (call_in es c) q.0) ∙ e)) ∙ sym q.1
]
place_kept (event.Answer d a ∷ es) more c o e = ap suc (place_kept es more c o e)

pub place_new : (h more : List Event) (c : CallId) → call_in h c ≡ None → length h ≤ call_place c (h ++ more)
place_new [] more c e = omega arith
place_new (event.Call d p ∷ es) more c e = elim (pick (same_call d c) zero (suc (call_place c (es ++ more)))) [
  | inl q ↦ absurd (none-some p (sym e ∙ cond-true (same_call d c) (Some p) (call_in es c) q.0))
  | inr q ↦ (let r = place_new es more c (sym (cond-false (same_call d c) (Some p) (call_in es c) q.0) ∙ e) in subst (λ n. suc (length es) ≤ n) (sym q.1) (omega (arith, r)))
]
place_new (event.Answer d a ∷ es) more c e = let r = place_new es more c e in omega (arith, r)

-- two calls of one place are one
pub place_same : (h : List Event) (c d : CallId) (o p : Op) → call_in h c ≡ Some o → call_in h d ≡ Some p → call_place c h ≡ call_place d h → c ≡ d
place_same [] c d o p e f q = absurd (none-some o e)
place_same (event.Call x r ∷ es) c d o p e f q = elim (pick (same_call x c) zero (suc (call_place c es))) [
  | inl a ↦ elim (pick (same_call x d) zero (suc (call_place d es))) [
    | inl b ↦ sym (same_call-path x c a.0) ∙ same_call-path x d b.0
    | inr b ↦ absurd (let z : 0 ≡ suc (call_place d es) = sym a.1 ∙ q ∙ b.1 in omega (arith, z))
  ]
  | inr a ↦ elim (pick (same_call x d) zero (suc (call_place d es))) [
    | inl b ↦ absurd (let z : 0 ≡ suc (call_place c es) = sym b.1 ∙ sym q ∙ a.1 in omega (arith, z))
    | inr b ↦ (let z : suc (call_place c es) ≡ suc (call_place d es) = sym a.1 ∙ q ∙ b.1 in
        place_same es c d o p (sym (cond-false (same_call x c) (Some r) (call_in es c) a.0) ∙ e) (sym (cond-false (same_call x d) (Some r) (call_in es d) b.0) ∙ f) (omega (arith, z)))
  ]
]
place_same (event.Answer x a ∷ es) c d o p e f q = place_same es c d o p e f (let z : suc (call_place c es) ≡ suc (call_place d es) = q in omega (arith, z))
