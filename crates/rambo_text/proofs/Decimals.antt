-- The digits of a number, in twos and fours
use Rattle.std.proofs.Common.{◌≡◌, ℕ, zero, suc, ◌+◌, ◌-◌, ◌*◌, ◌/◌, ◌%◌, ◌<◌, ◌≤◌, ◌^◌, Bool, true, ◌&&◌, T, eqb, List, [], ◌∷◌, ◌++◌, length, get_or, decimal, sym, ap, ◌∙◌, append_assoc, length-append, eqb→eq, eq-zero-or-pos, inl, inr, arith}
use Rattle.std.proofs.lemmas.Fmt.{decimal_digit, decimal_step}
use Rattle.std.specs.Str.{bytes_eq}
use Rattle.std.proofs.lemmas.Slice.Eq.{bytes_eq-Decides}
use lib.Ieee.Bits.{is_true}
use lib.Ieee.Fits.{and_l, and_r}
use Rattle.rambo_text.specs.Digits.{pair, four}
use Rattle.rambo_text.specs.Signs.{pairs_text}
use Rattle.rambo_text.specs.declared.digits.TheConstants.{PAIRS, HEX_PAIRS}

pub decimal-two : (n : ℕ) → 10 ≤ n → n < 100 → decimal n ≡ pair n
decimal-two n low high =
    decimal_step n low (omega arith) ∙ ap (λ ds. ds ++ (48 + n % 10) ∷ []) (decimal_digit (n / 10) (omega arith))

-- two digits behind the others
pub decimal-pair : (n : ℕ) → 100 ≤ n → n < 2 ^ 64 → decimal n ≡ decimal (n / 100) ++ pair (n % 100)
decimal-pair n low high =
    let tens : n / 10 / 10 ≡ n / 100 = omega arith in
    let front : n / 10 % 10 ≡ n % 100 / 10 = omega arith in
    let back : n % 10 ≡ n % 100 % 10 = omega arith in
    decimal_step n (omega arith) high
    ∙ ap (λ ds. ds ++ (48 + n % 10) ∷ []) (decimal_step (n / 10) (omega arith) (omega arith))
    ∙ append_assoc (decimal (n / 10 / 10)) ((48 + n / 10 % 10) ∷ []) ((48 + n % 10) ∷ [])
    ∙ (λ i. decimal (tens i) ++ (48 + front i) ∷ (48 + back i) ∷ [])

-- four digits behind the others
pub decimal-four : (n : ℕ) → 10000 ≤ n → n < 2 ^ 64 → decimal n ≡ decimal (n / 10000) ++ four (n % 10000)
decimal-four n low high =
    let hundreds : n / 100 / 100 ≡ n / 10000 = omega arith in
    let front : n / 100 % 100 ≡ n % 10000 / 100 = omega arith in
    let back : n % 100 ≡ n % 10000 % 100 = omega arith in
    decimal-pair n (omega arith) high
    ∙ ap (λ ds. ds ++ pair (n % 100)) (decimal-pair (n / 100) (omega arith) (omega arith))
    ∙ append_assoc (decimal (n / 100 / 100)) (pair (n / 100 % 100)) (pair (n % 100))
    ∙ (λ i. decimal (hundreds i) ++ (pair (front i) ++ pair (back i)))

pub length-one : (n : ℕ) → n < 10 → length (decimal n) ≡ 1
length-one n low = ap length (decimal_digit n low)

pub length-two : (n : ℕ) → 10 ≤ n → n < 100 → length (decimal n) ≡ 2
length-two n low high = ap length (decimal-two n low high)

pub length-pair : (n : ℕ) → 100 ≤ n → n < 2 ^ 64 → length (decimal n) ≡ length (decimal (n / 100)) + 2
length-pair n low high = ap length (decimal-pair n low high) ∙ length-append (decimal (n / 100)) (pair (n % 100))

pub length-four : (n : ℕ) → 10000 ≤ n → n < 2 ^ 64 → length (decimal n) ≡ length (decimal (n / 10000)) + 4
length-four n low high = ap length (decimal-four n low high) ∙ length-append (decimal (n / 10000)) (four (n % 10000))

-- some digits, and others behind them
pub digits_behind : (old front new more whole : List ℕ) → front ≡ old ++ more → (others : List ℕ) → new ≡ front ++ others → whole ≡ more ++ others → new ≡ old ++ whole
digits_behind old front new more whole first others second is =
    second ∙ ap (λ xs. xs ++ others) first ∙ append_assoc old more others ∙ ap (λ xs. old ++ xs) (sym is)

-- what the table of twos holds
abbrev are_pairs : ℕ → Bool
are_pairs zero = true
are_pairs (suc p) = (eqb (get_or PAIRS (p * 2) 0) (48 + p / 10) && eqb (get_or PAIRS (p * 2 + 1) 0) (48 + p % 10)) && are_pairs p

pairs_below : (n p : ℕ) → T (are_pairs n) → p < n → (get_or PAIRS (p * 2) 0 ≡ 48 + p / 10) × (get_or PAIRS (p * 2 + 1) 0 ≡ 48 + p % 10)
pairs_below zero p t h = absurd (omega arith)
pairs_below (suc n) p t h =
    elim (eq-zero-or-pos (n - p)) [
      | inl z ↦ (let e : p ≡ n = omega arith in let a = and_l _ (are_pairs n) t in rw e (eqb→eq _ _ (and_l _ _ a), eqb→eq _ _ (and_r _ _ a)))
      | inr g ↦ pairs_below n p (and_r _ (are_pairs n) t) (omega arith)
    ]

pub PAIRS_at : (p : ℕ) → p < 100 → (get_or PAIRS (p * 2) 0 ≡ 48 + p / 10) × (get_or PAIRS (p * 2 + 1) 0 ≡ 48 + p % 10)
PAIRS_at p h = pairs_below 100 p tt h

-- what the table of the digits of bytes holds
abbrev are_hex_pairs : ℕ → Bool
are_hex_pairs zero = true
are_hex_pairs (suc b) = bytes_eq (get_or HEX_PAIRS b []) (pairs_text (b ∷ [])) && are_hex_pairs b

hex_pairs_below : (n b : ℕ) → T (are_hex_pairs n) → b < n → get_or HEX_PAIRS b [] ≡ pairs_text (b ∷ [])
hex_pairs_below zero b t h = absurd (omega arith)
hex_pairs_below (suc n) b t h =
    elim (eq-zero-or-pos (n - b)) [
      | inl z ↦ (let e : b ≡ n = omega arith in rw e ((bytes_eq-Decides (get_or HEX_PAIRS n []) (pairs_text (n ∷ []))).0 (is_true _ (and_l _ (are_hex_pairs n) t))))
      | inr g ↦ hex_pairs_below n b (and_r _ (are_hex_pairs n) t) (omega arith)
    ]

pub HEX_PAIRS_at : (b : ℕ) → b < 256 → get_or HEX_PAIRS b [] ≡ pairs_text (b ∷ [])
HEX_PAIRS_at b h = hex_pairs_below 256 b tt h
