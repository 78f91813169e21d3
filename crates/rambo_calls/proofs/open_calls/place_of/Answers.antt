use Rattle.std.proofs.lemmas.Grind.{common_steps}
use Rattle.std.proofs.Common.{◌≡◌, ◌≢◌, ℕ, ◌+◌, Bool, zero, suc, List, ◌∷◌, length, true, false, nat_eq, [], refl, sym, ap, ◌∙◌, arith, eq-eqb}
use Rattle.std.proofs.lemmas.Bool.{cond-true, cond-false, eqb-true}
use Rattle.rambo_calls.specs.declared.open_call.OpenCall.{OpenCall}
use Rattle.rambo_calls.specs.Calls.{place_of}
use Rattle.rambo_calls.specs.Kept.{calls_of}
use Rattle.rambo_calls.proofs.open_calls.place_of.Goals as goal

not-true : (x : Bool) → (x ≡ true → ⊥) → x ≡ false
not-true true denied = absurd (denied refl)
not-true false denied = refl

-- a call of the number stands first
here : {Q : Type 0} (n : ℕ) (rest : List (OpenCall Q)) (c : OpenCall Q) (others : List (OpenCall Q)) → rest ≡ c ∷ others → c.number ≡ n → place_of n (calls_of rest) ≡ 0
here n rest c others e same = ap (λ cs. place_of n (calls_of cs)) e ∙ cond-true (nat_eq c.number n) zero (suc (place_of n (calls_of others))) (eq-eqb c.number n same)

-- or it stands behind the first
behind : {Q : Type 0} (n : ℕ) (rest : List (OpenCall Q)) (c : OpenCall Q) (others : List (OpenCall Q)) → rest ≡ c ∷ others → c.number ≢ n → place_of n (calls_of rest) ≡ suc (place_of n (calls_of others))
behind n rest c others e other = ap (λ cs. place_of n (calls_of cs)) e ∙ cond-false (nat_eq c.number n) zero (suc (place_of n (calls_of others))) (not-true (nat_eq c.number n) (λ same. other (eqb-true c.number n same)))

-- or there is none
none_left : {Q : Type 0} (n : ℕ) (rest : List (OpenCall Q)) → length rest ≡ 0 → place_of n (calls_of rest) ≡ 0
none_left n [] e = refl
none_left n (c ∷ others) e = absurd (omega (arith, e))

from_zero : (n : ℕ) → n ≡ 0 + n
from_zero n = omega arith

pub returns-then-call-number : goal.returns-then-call-number
returns-then-call-number g c =
    omega (arith, c.loop-call.invariant.0, here c.args.number c.loop-call.rest.now c.in-Some.call.now c.in-Some.others.now c.in-Some.ensures.cases.0 c.if-call-number.true)

pub loop-call-preserved : goal.loop-call-preserved
loop-call-preserved g c = (
  omega (arith, c.loop-call.invariant.0, behind c.args.number c.loop-call.rest.now c.in-Some.call.now c.in-Some.others.now c.in-Some.ensures.cases.0 c.if-call-number.false),
  omega (arith, c.loop-call.invariant.1, ap length c.in-Some.ensures.cases.0),
)

pub loop-call-init : goal.loop-call-init
loop-call-init g c = (from_zero _, sym (from_zero _))

pub overflow_add-count : goal.overflow_add-count
overflow_add-count g c = grind (arith, common_steps)

pub loop-call-smaller : goal.loop-call-smaller
loop-call-smaller g c = omega (arith, ap length c.in-Some.ensures.cases.0)

pub returns : goal.returns
returns g c = omega (arith, c.loop-call.invariant.0, none_left c.args.number c.loop-call.rest.now c.in_default.ensures.cases)
