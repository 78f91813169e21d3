-- The numbers of digits
use Rattle.std.proofs.Common.{◌≡◌, ℕ, zero, suc, ◌-◌, ◌<◌, Bool, true, nat_lt, ◌&&◌, ◌||◌, T, eqb, get_or, sym, ap, ◌∙◌, eqb→eq, eq-zero-or-pos, inl, inr, arith}
use Rattle.std.proofs.lemmas.Bool.Decides.{nat_tests}
use lib.Ieee.Fits.{and_l, and_r}
use Rattle.rambo_text.specs.Signs.{digit_of}
use Rattle.rambo_text.specs.declared.numbers.TheConstants.{NUMBERS}

-- each number in the table is that of its digit
abbrev are_numbers : ℕ → Bool
are_numbers zero = true
are_numbers (suc b) = (nat_lt 15 (get_or NUMBERS b 0) || eqb (digit_of (get_or NUMBERS b 0)) b) && are_numbers b

either : (n d b : ℕ) → T (nat_lt 15 n || eqb d b) → n < 16 → b ≡ d
either n d b t h = elim (nat_lt 15 n) as (λ x. nat_lt 15 n ≡ x → T (x || eqb d b) → b ≡ d) [
  | true ↦ λ e _. (let high : 15 < n = grind (arith, nat_tests) in absurd (omega (arith, high, h)))
  | _ ↦ λ _ s. sym (eqb→eq d b s)
] (λ i. nat_lt 15 n) t

numbers_below : (n b : ℕ) → T (are_numbers n) → b < n → get_or NUMBERS b 0 < 16 → b ≡ digit_of (get_or NUMBERS b 0)
numbers_below zero b t h low = absurd (omega arith)
numbers_below (suc n) b t h low =
    elim (eq-zero-or-pos (n - b)) [
      | inl z ↦ (let e : b ≡ n = omega arith in let k = and_l _ (are_numbers n) t in
          (e ∙ either (get_or NUMBERS n 0) (digit_of (get_or NUMBERS n 0)) n k (let same : get_or NUMBERS b 0 ≡ get_or NUMBERS n 0 = ap (λ x. get_or NUMBERS x 0) e in omega (arith, same, low)))
          ∙ ap (λ x. digit_of (get_or NUMBERS x 0)) (sym e))
      | inr g ↦ numbers_below n b (and_r _ (are_numbers n) t) (omega arith) low
    ]

pub NUMBERS_at : (b : ℕ) → b < 256 → get_or NUMBERS b 0 < 16 → b ≡ digit_of (get_or NUMBERS b 0)
NUMBERS_at b h low = numbers_below 256 b tt h low

-- and each digit has its number there
abbrev have_numbers : ℕ → Bool
have_numbers zero = true
have_numbers (suc d) = eqb (get_or NUMBERS (digit_of d) 0) d && have_numbers d

digits_below : (n d : ℕ) → T (have_numbers n) → d < n → get_or NUMBERS (digit_of d) 0 ≡ d
digits_below zero d t h = absurd (omega arith)
digits_below (suc n) d t h =
    elim (eq-zero-or-pos (n - d)) [
      | inl z ↦ (let e : d ≡ n = omega arith in rw e (eqb→eq _ _ (and_l _ (have_numbers n) t)))
      | inr g ↦ digits_below n d (and_r _ (have_numbers n) t) (omega arith)
    ]

pub NUMBERS_of : (d : ℕ) → d < 16 → get_or NUMBERS (digit_of d) 0 ≡ d
NUMBERS_of d h = digits_below 16 d tt h
