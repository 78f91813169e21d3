-- Sets of the calls that stand in a front
use Rattle.std.proofs.Common.{◌≡◌, Bool, true, false, cond, not, ◌||◌, List, [], ◌∷◌, ◌++◌, refl, sym, ap, ◌∙◌, inl, inr, true≢false}
use Rattle.std.specs.List.{list_any}
use Rattle.rambo_history.specs.declared.event.CallId.{CallId}
use Rattle.rambo_history.specs.Calls.{same_call}
use Rattle.rambo_history.specs.Proper.{Stands}
use Rattle.rambo_history.proofs.Pushes.{same_call-path, same_call-refl}
use Rattle.rambo_history.proofs.Splits.{stands-later, stands-nil, stands-cases}
use Rattle.rambo_atomic.specs.Tests.{stands_in}
use Rattle.rambo_atomic.proofs.Seen.{stands_in-push}

pub stands-to : (order : List CallId) (c : CallId) → stands_in order c ≡ true → Stands order c
stands-to [] c e = absurd (true≢false (sym e))
stands-to (d ∷ ds) c e =
    elim (same_call d c) as (λ t. same_call d c ≡ t → (t || stands_in ds c) ≡ true → Stands (d ∷ ds) c) [
      | true ↦ λ same _. ([], ds, ap (λ x. x ∷ ds) (same_call-path d c same))
      | false ↦ λ _ rest. stands-later d c ds (stands-to ds c rest)
    ] refl e

pub stands-from : (order : List CallId) (c : CallId) → Stands order c → stands_in order c ≡ true
stands-from [] c s = absurd (stands-nil c s)
stands-from (d ∷ ds) c s =
    elim (stands-cases d c ds s) [
      | inl same ↦ ap (λ t. t || stands_in ds c) (ap (λ x. same_call x c) same ∙ same_call-refl c)
      | inr later ↦ elim (same_call d c) as (λ t. (t || stands_in ds c) ≡ true) [ true ↦ refl | false ↦ stands-from ds c later ]
    ]

pub unstands : (order : List CallId) (c : CallId) → stands_in order c ≡ false → ¬ (Stands order c)
unstands order c e s = true≢false (sym (stands-from order c s) ∙ e)

-- one call more
pub seen-push : (front old new : List CallId) (c : CallId) → ((q : CallId) → list_any (same_call q) old ≡ stands_in front q)
    → ((q : CallId) → list_any (same_call q) new ≡ cond (same_call c q) true (list_any (same_call q) old))
    → (q : CallId) → list_any (same_call q) new ≡ stands_in (front ++ c ∷ []) q
seen-push front old new c was now q = now q ∙ ap (cond (same_call c q) true) (was q) ∙ turned (same_call c q) (stands_in front q) ∙ sym (stands_in-push front c q)
  where
    turned : (t u : Bool) → cond t true u ≡ (u || t)
    turned true true = refl
    turned true false = refl
    turned false true = refl
    turned false false = refl

-- what a set said of an entry: whether it was new
pub was-there : (r t : Bool) → r ≡ not t → r ≡ false → t ≡ true
was-there r true e f = refl
was-there r false e f = absurd (true≢false (sym e ∙ f))

pub was-new : (r t : Bool) → r ≡ not t → r ≡ true → t ≡ false
was-new r true e f = absurd (true≢false (sym f ∙ e))
was-new r false e f = refl
