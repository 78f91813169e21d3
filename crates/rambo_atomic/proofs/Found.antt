-- What is found in an order so far, and what is left of it
use Rattle.std.proofs.Common.{◌≡◌, ℕ, ◌+◌, ◌-◌, List, ◌∷◌, Bool, true, false, cond, not, ◌&&◌, Option, None, Some, refl, sym, ap, ◌∙◌, arith}
use Rattle.rambo_history.specs.declared.event.CallId.{CallId}
use Rattle.rambo_history.specs.declared.event.Event.{Event}
use Rattle.rambo_history.specs.Histories.{call_in, answer_in, called_at, answered_at, is_before}
use Rattle.rambo_history.specs.Proper.{after_op}
use Rattle.rambo_atomic.specs.declared.findings.Findings.{Findings}
use Rattle.rambo_atomic.specs.declared.scope.Scope.{Scope}
use Rattle.rambo_atomic.specs.Findings.{is_from, past, rises_from}
use Rattle.rambo_atomic.specs.Scopes.{within}
use Rattle.rambo_atomic.specs.Tallies.{how_many, is_answered_call}
use Rattle.rambo_atomic.specs.Tests.{is_own, has_no_stranger, is_told, all_told, none_held, later, keeps_real_time}
use Rattle.rambo_atomic.proofs.Decided.{both}

-- what is found so far and the rules on what is left are the rules on the whole order; keys hold this behind what was passed
pub record IsFound (h : List Event) (s : Scope) (order rest : List CallId) (f : Findings) (held : List ℕ → Option (List ℕ)) : Type 0 where
  pub answered : f.answered + how_many (is_answered_call h (within s)) rest ≡ how_many (is_answered_call h (within s)) order
  pub no_stranger : has_no_stranger h (within s) order ≡ (f.has_no_stranger && has_no_stranger h (within s) rest)
  pub latest : f.has_no_stranger ≡ true → all_told h none_held order ≡ (f.is_latest && all_told h held rest)
  pub real_time : keeps_real_time h 0 order ≡ (f.keeps_real_time && keeps_real_time h (f.passed - 1) rest)
  pub rising : rises_from h 0 order ≡ (f.is_rising && rises_from h f.passed rest)

grouped : (a b c : Bool) → (a && (b && c)) ≡ ((a && b) && c)
grouped true b c = refl
grouped false b c = refl

stopped : (a b c : Bool) → (a && cond b false c) ≡ ((a && not b) && c)
stopped true true c = refl
stopped true false c = refl
stopped false b c = refl

told-on : (l t g x y : Bool) → g ≡ (l && t) → (g ≡ true → x ≡ y) → (l && cond t x false) ≡ (g && y)
told-on true true g x y e same = same e ∙ sym (ap (λ b. b && y) e)
told-on true false g x y e same = sym (ap (λ b. b && y) e)
told-on false t g x y e same = sym (ap (λ b. b && y) e)

latest-past : (n : ℕ) (o : Option ℕ) → later (n - 1) o ≡ past n o - 1
latest-past n None = refl
latest-past n (Some m) = omega arith

module _ (h : List Event) (s : Scope) (order : List CallId) (c : CallId) (cs : List CallId) (f g : Findings) (held next : List ℕ → Option (List ℕ))
    (was : IsFound h s order (c ∷ cs) f held) where
  -- one entry more
  pub found-on : g.answered ≡ f.answered + cond (is_answered_call h (within s) c) 1 0
      → g.has_no_stranger ≡ (f.has_no_stranger && is_own h (within s) c)
      → (g.has_no_stranger ≡ true → g.is_latest ≡ (f.is_latest && is_told held (call_in h c) (answer_in h c)))
      → (g.has_no_stranger ≡ true → g.is_latest ≡ true → (q : List ℕ) → next q ≡ after_op q (call_in h c) (held q))
      → g.keeps_real_time ≡ (f.keeps_real_time && not (is_before (f.passed - 1) (answered_at h c)))
      → g.is_rising ≡ (f.is_rising && is_from f.passed (called_at h c))
      → g.passed ≡ past f.passed (called_at h c)
      → IsFound h s order cs g next
  found-on answered own told holds early rises passed = record {
    answered = sum g.answered f.answered (cond (is_answered_call h (within s) c) 1 0) (how_many (is_answered_call h (within s)) cs) answered ∙ was.answered;
    no_stranger = was.no_stranger ∙ grouped f.has_no_stranger (is_own h (within s) c) (has_no_stranger h (within s) cs) ∙ ap (λ t. t && has_no_stranger h (within s) cs) (sym own);
    latest = λ alone. was.latest (both f.has_no_stranger (is_own h (within s) c) (sym own ∙ alone)).0
        ∙ told-on f.is_latest (is_told held (call_in h c) (answer_in h c)) g.is_latest
        (all_told h (λ q. after_op q (call_in h c) (held q)) cs) (all_told h next cs) (told alone)
        (λ right i. all_told h (λ q. sym (holds alone right q) i) cs);
    real_time = was.real_time
        ∙ stopped f.keeps_real_time (is_before (f.passed - 1) (answered_at h c)) (keeps_real_time h (later (f.passed - 1) (called_at h c)) cs)
        ∙ (λ i. sym early i && keeps_real_time h ((latest-past f.passed (called_at h c) ∙ ap (λ n. n - 1) (sym passed)) i) cs);
    rising = was.rising ∙ grouped f.is_rising (is_from f.passed (called_at h c)) (rises_from h (past f.passed (called_at h c)) cs)
        ∙ (λ i. sym rises i && rises_from h (sym passed i) cs);
  }
    where
      sum : (a b n m : ℕ) → a ≡ b + n → a + m ≡ b + (n + m)
      sum a b n m e = omega arith
