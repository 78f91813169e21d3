-- An order whose calls were made one after another has none twice
use Rattle.std.proofs.Common.{◌≡◌, ℕ, List, [], ◌∷◌, true, false, cond, ◌||◌, Option, None, Some, refl, sym, ap, ◌∙◌, true≢false, arith}
use Rattle.std.proofs.lemmas.Bool.Decides.{nat_tests}
use Rattle.rambo_history.specs.declared.event.CallId.{CallId}
use Rattle.rambo_history.specs.declared.event.Event.{Event}
use Rattle.rambo_history.specs.Calls.{same_call}
use Rattle.rambo_history.specs.Histories.{called_at}
use Rattle.rambo_atomic.specs.Findings.{is_from, past, rises_from}
use Rattle.rambo_atomic.specs.Tests.{stands_in, is_distinct}
use Rattle.rambo_history.proofs.Pushes.{same_call-path}
use Rattle.rambo_atomic.proofs.Decided.{both}

from-past : (n : ℕ) (o p : Option ℕ) → is_from (past n o) p ≡ true → is_from n p ≡ true
from-past n None p e = e
from-past n (Some m) None e = e
from-past n (Some m) (Some k) e = grind (arith, nat_tests)

-- a call isn't past itself
not-past : (n : ℕ) (o : Option ℕ) → is_from n o ≡ true → ¬ (is_from (past n o) o ≡ true)
not-past n None e f = true≢false (sym e)
not-past n (Some m) e f = grind (arith, nat_tests)

from-each : (h : List Event) (n : ℕ) (order : List CallId) → rises_from h n order ≡ true → (d : CallId) → stands_in order d ≡ true → is_from n (called_at h d) ≡ true
from-each h n [] e d stands = absurd (true≢false (sym stands))
from-each h n (c ∷ cs) e d stands =
    let p = both (is_from n (called_at h c)) (rises_from h (past n (called_at h c)) cs) e in
    elim (same_call c d) as (λ t. same_call c d ≡ t → (t || stands_in cs d) ≡ true → is_from n (called_at h d) ≡ true) [
      | true ↦ λ same _. ap (λ x. is_from n (called_at h x)) (sym (same_call-path c d same)) ∙ p.0
      | false ↦ λ _ behind. from-past n (called_at h c) (called_at h d) (from-each h (past n (called_at h c)) cs p.1 d behind)
    ] refl stands

pub rising-distinct : (h : List Event) (n : ℕ) (order : List CallId) → rises_from h n order ≡ true → is_distinct order ≡ true
rising-distinct h n [] e = refl
rising-distinct h n (c ∷ cs) e =
    let p = both (is_from n (called_at h c)) (rises_from h (past n (called_at h c)) cs) e in
    elim (stands_in cs c) as (λ t. stands_in cs c ≡ t → cond t false (is_distinct cs) ≡ true) [
      | true ↦ λ twice. absurd (not-past n (called_at h c) p.0 (from-each h (past n (called_at h c)) cs p.1 c twice))
      | false ↦ λ _. rising-distinct h (past n (called_at h c)) cs p.1
    ] refl
