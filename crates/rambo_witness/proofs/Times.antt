-- Which call of a front was made last, and what was answered before it
use Rattle.std.proofs.Common.{◌≡◌, ℕ, ◌≤◌, ◌<◌, true, List, [], ◌∷◌, ◌++◌, Option, None, Some, refl, sym, ap, ◌∙◌, inl, inr, true≢false, arith}
use Rattle.std.proofs.lemmas.Bool.Decides.{nat_tests}
use Rattle.rambo_history.specs.declared.event.CallId.{CallId}
use Rattle.rambo_history.specs.declared.event.Event.{Event}
use Rattle.rambo_history.specs.Forms.{CallsOnce}
use Rattle.rambo_history.specs.Histories.{answered_before, called_at, answered_at}
use Rattle.rambo_history.specs.Proper.{Stands, KeepsRealTime}
use Rattle.rambo_history.proofs.AnsweredBefore.{precedes, answered_before-places}
use Rattle.rambo_witness.specs.LastMade.{HasLast}
use Rattle.rambo_witness.specs.declared.out_of_order.Made.{Made}
use Rattle.rambo_witness.proofs.Fronts.{pairs-push, stands-front, stands-last, stands-push}

pub none-some : {X : Type 0} (x : X) → None ≡ Some x → ⊥
none-some x e = cc

-- one call more
pub last-same : (h : List Event) (front : List CallId) (c : CallId) (m : Made) → HasLast h front (Some m)
    → ((n : ℕ) → called_at h c ≡ Some n → n ≤ m.place) → HasLast h (front ++ c ∷ []) (Some m)
last-same h front c m has early = (
  stands-front front (c ∷ []) m.call has.0,
  has.1,
  λ d n s e. elim (stands-push front c d s) [
    | inl before ↦ has.2 d n before e
    | inr last ↦ early n (ap (called_at h) last ∙ e)
  ],
)

pub last-none : (h : List Event) (front : List CallId) (c : CallId) → HasLast h front None → called_at h c ≡ None → HasLast h (front ++ c ∷ []) None
last-none h front c has none d s =
    elim (stands-push front c d s) [ inl before ↦ has d before | inr last ↦ ap (called_at h) (sym last) ∙ none ]

pub last-unmade : (h : List Event) (front : List CallId) (c : CallId) (o : Option Made) → HasLast h front o → called_at h c ≡ None → HasLast h (front ++ c ∷ []) o
last-unmade h front c None has none = last-none h front c has none
last-unmade h front c (Some m) has none = last-same h front c m has (λ n e. absurd (none-some n (sym none ∙ e)))

-- the call more is the last, since it was made behind the last of before
pub last-new : (h : List Event) (front : List CallId) (c : CallId) (place : ℕ) (o : Option Made) → HasLast h front o → called_at h c ≡ Some place
    → ((m : Made) → o ≡ Some m → m.place < place) → HasLast h (front ++ c ∷ []) (Some (record { call = c; place = place }))
last-new h front c place None has made late = (
  stands-last front c,
  made,
  λ d n s e. elim (stands-push front c d s) [
    | inl before ↦ absurd (none-some n (sym (has d before) ∙ e))
    | inr last ↦ let same : Some place ≡ Some n = sym made ∙ ap (called_at h) last ∙ e in let is : place ≡ n = cc in omega (arith, is)
  ],
)
last-new h front c place (Some m) has made late = (
  stands-last front c,
  made,
  λ d n s e. elim (stands-push front c d s) [
    | inl before ↦ let few = has.2 d n before e in let more = late m refl in omega (arith, few, more)
    | inr last ↦ let same : Some place ≡ Some n = sym made ∙ ap (called_at h) last ∙ e in let is : place ≡ n = cc in omega (arith, is)
  ],
)

-- what was answered before the last was made
pub answered-early : (h : List Event) → CallsOnce h → (c d : CallId) (m n : ℕ) → answered_at h c ≡ Some n → called_at h d ≡ Some m → n < m → answered_before h c d ≡ true
answered-early h once c d m n answered made early =
    answered_before-places h once c d ∙ (λ i. precedes (answered i) (made i)) ∙ grind (arith, nat_tests)

-- what wasn't, was answered before none of the front
unprecedes : (o p : Option ℕ) (place : ℕ) → ((n m : ℕ) → o ≡ Some n → p ≡ Some m → ¬ (n < m)) → ¬ (precedes o p ≡ true)
unprecedes None None place f e = true≢false (sym e)
unprecedes (Some n) None place f e = true≢false (sym e)
unprecedes None (Some m) place f e = true≢false (sym e)
unprecedes (Some n) (Some m) place f e = f n m refl refl (grind (arith, nat_tests))

pub answered-late : (h : List Event) → CallsOnce h → (front : List CallId) (c : CallId) (o : Option Made) → HasLast h front o
    → ((m : Made) (n : ℕ) → o ≡ Some m → answered_at h c ≡ Some n → m.place ≤ n)
    → (d : CallId) → Stands front d → ¬ (answered_before h c d ≡ true)
answered-late h once front c None has late d s e =
    unprecedes (answered_at h c) (called_at h d) 0 (λ n m answered made. absurd (none-some m (sym (has d s) ∙ made))) (sym (answered_before-places h once c d) ∙ e)
answered-late h once front c (Some l) has late d s e =
    unprecedes (answered_at h c) (called_at h d) 0
    (λ n m answered made early. let few = has.2 d m s made in let most = late l n refl answered in omega (arith, few, most, early))
    (sym (answered_before-places h once c d) ∙ e)

pub time-push : (h : List Event) (front : List CallId) (c : CallId) → KeepsRealTime h front → ((d : CallId) → Stands front d → ¬ (answered_before h c d ≡ true)) → KeepsRealTime h (front ++ c ∷ [])
time-push h front c keeps late = pairs-push (λ d e. ¬ (answered_before h e d ≡ true)) front c keeps late

pub same-number : (m n : ℕ) → Some m ≡ Some n → m ≡ n
same-number m n e = cc

pub same-made : (m n : Made) → Some m ≡ Some n → m ≡ n
same-made m n e = cc
