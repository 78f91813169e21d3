-- What a text is that starts plainly and has digits alone
use Rattle.std.proofs.Common.{◌≡◌, ◌≢◌, ℕ, suc, ◌^◌, ◌<◌, ◌+◌, ◌-◌, ◌*◌, List, [], ◌∷◌, ◌++◌, true, not, ◌&&◌, ◌||◌, ◌==◌, length, get_or, take, decimal, refl, subst, sym, ap, ◌∙◌, true≢false, arith, inl, inr}
use Rattle.std.proofs.lemmas.Bool.{cases_lt}
use Rattle.std.proofs.lemmas.Bool.Decides.{nat_tests}
use Rattle.std.proofs.lemmas.Fmt.{decimal-digits_value, decimal_nonempty, first_decimal, decimal_digit}
use Rattle.std.proofs.lemmas.Int.Digits.{digits_value_push}
use Rattle.std.proofs.lemmas.List.{take_more}
use Rattle.std.proofs.lemmas.Str.{digit_value_digit}
use Rattle.std.proofs.lemmas.Str.Parse.{IsNumeralModel, numerals_by_value, tells_digits}
use Rattle.std.specs.Char.{digit_value}
use Rattle.std.specs.Int.{IsInRange}
use Rattle.std.specs.Str.Parse.{AllDigits, digits_value}
use Rattle.rambo_names.specs.Signs.{starts_plainly}

told : (b n : ℕ) → (not (b == 43) && (not (b == 48) || n == 0)) ≡ true → (b ≢ 43) × (b ≡ 48 → n ≡ 0)
told b n e = (λ p. grind (arith, nat_tests), λ p. grind (arith, nat_tests))

tell : (b n : ℕ) → b ≢ 43 → (b ≡ 48 → n ≡ 0) → (not (b == 43) && (not (b == 48) || n == 0)) ≡ true
tell b n p q = grind (arith, nat_tests)

pub digits : IsNumeralModel (AllDigits 10) (digits_value 10)
digits = numerals_by_value (AllDigits 10) tells_digits

-- what starts plainly and has digits alone is the numeral of its number
pub is_numeral : (bs : List ℕ) (n : ℕ) → starts_plainly bs ≡ true → AllDigits 10 bs → n ≡ digits_value 10 bs → n < 2 ^ 64 → bs ≡ decimal n
is_numeral [] n e all value h = absurd (true≢false (sym e))
is_numeral (b ∷ bs) n e all value h =
    let k = told b (length bs) e in
    let text : decimal (digits_value 10 (b ∷ bs)) ≡ b ∷ bs =
    decimal-digits_value digits (b ∷ bs) all (omega arith) (λ z. let l : length bs ≡ 0 = k.1 z in omega (arith, l)) (subst (λ x. x < 2 ^ 64) value h) in
    sym text ∙ ap decimal (sym value)

push_digit : (ds : List ℕ) (c : ℕ) → AllDigits 10 ds → digit_value c < 10 → AllDigits 10 (ds ++ c ∷ [])
push_digit [] c all d = (d, tt)
push_digit (x ∷ ds) c all d = (all.0, push_digit ds c all.1 d)

-- one digit more
pub more_digits : (bs : List ℕ) (i : ℕ) → i < length bs → digit_value (get_or bs i 0) < 10 → AllDigits 10 (take i bs) → AllDigits 10 (take (i + 1) bs)
more_digits bs i l d all = subst (AllDigits 10) (sym (take_more bs i 0 l)) (push_digit (take i bs) (get_or bs i 0) all d)

pub more_value : (bs : List ℕ) (i : ℕ) → i < length bs → IsInRange 48 57 (get_or bs i 0) → digits_value 10 (take (i + 1) bs) ≡ digits_value 10 (take i bs) * 10 + (get_or bs i 0 - 48)
more_value bs i l range =
    let v = digit_value_digit (get_or bs i 0) range in
    let is : digit_value (get_or bs i 0) ≡ get_or bs i 0 - 48 = omega (arith, v) in
    ap (digits_value 10) (take_more bs i 0 l) ∙ digits_value_push 10 (take i bs) (get_or bs i 0) ∙ ap (λ d. digits_value 10 (take i bs) * 10 + d) is

starts : (ds : List ℕ) → 0 < length ds → (get_or ds 0 0 ≢ 43) → (get_or ds 0 0 ≡ 48 → length ds ≡ 1) → starts_plainly ds ≡ true
starts [] l p q = absurd (omega (arith, l))
starts (d ∷ ds) l p q = tell d (length ds) p (λ e. let k : suc (length ds) ≡ 1 = q e in omega (arith, k))

-- a numeral starts plainly
pub plain_numeral : (n : ℕ) → n < 2 ^ 64 → starts_plainly (decimal n) ≡ true
plain_numeral n h = elim (cases_lt n 10) [
  | inl small ↦ (let e = decimal_digit n small in subst (λ ds. starts_plainly ds ≡ true) (sym e) (starts ((48 + n) ∷ []) (omega arith) (λ k. let z : 48 + n ≡ 43 = k in omega (arith, z)) (λ k. refl)))
  | inr big ↦
      (let f = first_decimal n (omega (arith, big)) h in
      starts (decimal n) (decimal_nonempty n h) (λ k. omega (arith, f, k)) (λ k. absurd (omega (arith, f, k))))
]
