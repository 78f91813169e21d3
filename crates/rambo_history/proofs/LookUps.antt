-- Look-ups in a history, by place and from its end
use Rattle.std.proofs.Common.{◌≡◌, ℕ, suc, ◌+◌, Bool, true, false, cond, not, nat_lt, List, [], ◌∷◌, ◌++◌, length, Option, None, Some, refl, sym, ap, ◌∙◌, arith}
use Rattle.std.proofs.lemmas.Bool.Decides.{nat_tests}
use Rattle.std.specs.List.{position, position_or_len, slice_get}
use Rattle.std.specs.Option.{option_map}
use Rattle.rambo_history.specs.declared.operation.Op.{Op}
use Rattle.rambo_history.specs.declared.operation.Answer.{Answer}
use Rattle.rambo_history.specs.declared.event.CallId.{CallId}
use Rattle.rambo_history.specs.declared.event.Event.{Event}
use Rattle.rambo_history.specs.declared.event.Event.TheVariants as event
use Rattle.rambo_history.specs.Calls.{same_call}
use Rattle.rambo_history.specs.Histories.{call_in, answer_in, is_call, is_answer, called_at, answered_at}
use Rattle.rambo_history.specs.Looks.{op_of, answer_of}

counted : (m n : ℕ) → cond (nat_lt (1 + m) (suc n)) (Some (1 + m)) None ≡ option_map suc (cond (nat_lt m n) (Some m) None)
counted m n =
    let e : nat_lt (1 + m) (suc n) ≡ nat_lt m n = grind (arith, nat_tests) in
    let f : 1 + m ≡ suc m = omega arith in
    rw (e, f) (elim (nat_lt m n) as (λ t. cond t (Some (suc m)) None ≡ option_map suc (cond t (Some m) None)) [ true ↦ refl | false ↦ refl ])

pub position-cons : {X : Type 0} (p : X → Bool) (x : X) (xs : List X) → position p (x ∷ xs) ≡ cond (p x) (Some 0) (option_map suc (position p xs))
position-cons p x xs =
    elim (p x) as (λ t. cond (nat_lt (cond (not t) (1 + position_or_len p xs) 0) (suc (length xs))) (Some (cond (not t) (1 + position_or_len p xs) 0)) None
    ≡ cond t (Some 0) (option_map suc (position p xs))) [
      | true ↦ let e : nat_lt 0 (suc (length xs)) ≡ true = grind (arith, nat_tests) in rw e refl
      | false ↦ counted (position_or_len p xs) (length xs)
    ]

-- the first of two options that is there
abbrev pub either : {X : Type 0} → Option X → Option X → Option X
either None o = o
either (Some x) o = Some x

pub position-push : {X : Type 0} (p : X → Bool) (xs : List X) (y : X)
    → position p (xs ++ y ∷ []) ≡ either (position p xs) (cond (p y) (Some (length xs)) None)
position-push p [] y = position-cons p y []
position-push p (x ∷ xs) y =
    position-cons p x (xs ++ y ∷ [])
    ∙ ap (λ o. cond (p x) (Some 0) (option_map suc o)) (position-push p xs y)
    ∙ step (p x) (position p xs) (p y) (length xs)
    ∙ ap (λ o. either o (cond (p y) (Some (suc (length xs))) None)) (sym (position-cons p x xs))
  where
    step : (t : Bool) (o : Option ℕ) (u : Bool) (n : ℕ)
        → cond t (Some 0) (option_map suc (either o (cond u (Some n) None))) ≡ either (cond t (Some 0) (option_map suc o)) (cond u (Some (suc n)) None)
    step true o u n = refl
    step false (Some m) u n = refl
    step false None true n = refl
    step false None false n = refl

-- what an event asks of a call, and what it tells it
abbrev pub asked : Event → CallId → Option Op
asked (event.Call d op) c = cond (same_call d c) (Some op) None
asked (event.Answer d a) c = None

abbrev pub told : Event → CallId → Option Answer
told (event.Call d op) c = None
told (event.Answer d a) c = cond (same_call d c) (Some a) None

either-cond : {X : Type 0} (t : Bool) (x : X) (o p : Option X) → cond t (Some x) (either o p) ≡ either (cond t (Some x) o) p
either-cond true x o p = refl
either-cond false x o p = refl

pub call_in-append : (h k : List Event) (c : CallId) → call_in (h ++ k) c ≡ either (call_in h c) (call_in k c)
call_in-append [] k c = refl
call_in-append (event.Call d op ∷ es) k c =
    ap (λ o. cond (same_call d c) (Some op) o) (call_in-append es k c) ∙ either-cond (same_call d c) op (call_in es c) (call_in k c)
call_in-append (event.Answer d a ∷ es) k c = call_in-append es k c

pub answer_in-append : (h k : List Event) (c : CallId) → answer_in (h ++ k) c ≡ either (answer_in h c) (answer_in k c)
answer_in-append [] k c = refl
answer_in-append (event.Call d op ∷ es) k c = answer_in-append es k c
answer_in-append (event.Answer d a ∷ es) k c =
    ap (λ o. cond (same_call d c) (Some a) o) (answer_in-append es k c) ∙ either-cond (same_call d c) a (answer_in es c) (answer_in k c)

-- the event at a place
abbrev pub event_at : List Event → Option ℕ → Option Event
event_at h None = None
event_at h (Some n) = slice_get h n

event_at-suc : (e : Event) (es : List Event) (o : Option ℕ) → event_at (e ∷ es) (option_map suc o) ≡ event_at es o
event_at-suc e es None = refl
event_at-suc e es (Some n) = refl

-- a call is what stands at its place
pub call_in-at : (h : List Event) (c : CallId) → call_in h c ≡ op_of (event_at h (called_at h c))
call_in-at [] c = refl
call_in-at (event.Call d op ∷ es) c =
    step (call_in-at es c) (same_call d c) ∙ ap (λ o. op_of (event_at (event.Call d op ∷ es) o)) (sym (position-cons (is_call c) (event.Call d op) es))
  where
    step : call_in es c ≡ op_of (event_at es (called_at es c)) → (t : Bool)
        → cond t (Some op) (call_in es c) ≡ op_of (event_at (event.Call d op ∷ es) (cond t (Some 0) (option_map suc (called_at es c))))
    step same true = refl
    step same false = same ∙ ap op_of (sym (event_at-suc (event.Call d op) es (called_at es c)))
call_in-at (event.Answer d a ∷ es) c =
    call_in-at es c
    ∙ ap op_of (sym (event_at-suc (event.Answer d a) es (called_at es c)))
    ∙ ap (λ o. op_of (event_at (event.Answer d a ∷ es) o)) (sym (position-cons (is_call c) (event.Answer d a) es))

pub answer_in-at : (h : List Event) (c : CallId) → answer_in h c ≡ answer_of (event_at h (answered_at h c))
answer_in-at [] c = refl
answer_in-at (event.Answer d a ∷ es) c =
    step (answer_in-at es c) (same_call d c) ∙ ap (λ o. answer_of (event_at (event.Answer d a ∷ es) o)) (sym (position-cons (is_answer c) (event.Answer d a) es))
  where
    step : answer_in es c ≡ answer_of (event_at es (answered_at es c)) → (t : Bool)
        → cond t (Some a) (answer_in es c) ≡ answer_of (event_at (event.Answer d a ∷ es) (cond t (Some 0) (option_map suc (answered_at es c))))
    step same true = refl
    step same false = same ∙ ap answer_of (sym (event_at-suc (event.Answer d a) es (answered_at es c)))
answer_in-at (event.Call d op ∷ es) c =
    answer_in-at es c
    ∙ ap answer_of (sym (event_at-suc (event.Call d op) es (answered_at es c)))
    ∙ ap (λ o. answer_of (event_at (event.Call d op ∷ es) o)) (sym (position-cons (is_answer c) (event.Call d op) es))
