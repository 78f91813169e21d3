-- Where the digits at the front of a text end
use Rattle.std.proofs.Common.{◌≡◌, ℕ, ◌+◌, ◌-◌, ◌*◌, ◌<◌, ◌^◌, true, false, append-nil, List, [], ◌∷◌, ◌++◌, length, get_or, take, drop, decimal, refl, sym, ap, ◌∙◌, true≢false, arith, take-append-drop}
use Rattle.std.proofs.lemmas.Bool.Decides.{nat_tests}
use Rattle.std.proofs.lemmas.Fmt.{digits_decimal, digits_value-decimal}
use Rattle.std.proofs.lemmas.Str.Parse.{digit_at, digits_value-take-le}
use Rattle.std.specs.Char.{is_ascii_digit}
use Rattle.std.specs.Int.{IsInRange}
use Rattle.std.specs.Str.Parse.{AllDigits, digits_value}
use Rattle.rambo_names.specs.Signs.{IsNumberEnd, starts_plainly}
use Rattle.rambo_names.proofs.Numerals.{digits, plain_numeral, more_value}

is_digit : (b : ℕ) → IsInRange 48 57 b → is_ascii_digit b ≡ true
is_digit b range = grind (arith, nat_tests)

-- a number doesn't end before a digit
no_digit : (d : ℕ) (ds r q : List ℕ) → AllDigits 10 (d ∷ ds) → IsNumberEnd r → r ≡ d ∷ q → ⊥
no_digit d ds [] q all end e = cc
no_digit d ds (b ∷ bs) q all end e =
    let same : b ≡ d = cc in
    true≢false (sym (is_digit d (digit_at (d ∷ ds) 0 all (omega arith))) ∙ ap is_ascii_digit (sym same) ∙ end)

-- digits that end are known by the text
pub same_end : (ds es r q : List ℕ) → AllDigits 10 ds → AllDigits 10 es → IsNumberEnd r → IsNumberEnd q → ds ++ r ≡ es ++ q → (ds ≡ es) × (r ≡ q)
same_end [] [] r q a b m n e = (refl, e)
same_end [] (x ∷ es) r q a b m n e = absurd (no_digit x es r (es ++ q) b m e)
same_end (d ∷ ds) [] r q a b m n e = absurd (no_digit d ds q (ds ++ r) a n (sym e))
same_end (d ∷ ds) (x ∷ es) r q a b m n e =
    let head : d ≡ x = cc in
    let rest = same_end ds es r q a.1 b.1 m n cc in
    ((λ i. head i ∷ rest.0 i), rest.1)

-- digits at the front of a text are some of those before the end
within : (ds es r q : List ℕ) → AllDigits 10 ds → IsNumberEnd q → ds ++ r ≡ es ++ q → (fs : List ℕ) × (es ≡ ds ++ fs)
within [] es r q a n e = (es, refl)
within (d ∷ ds) [] r q a n e = absurd (no_digit d ds q (ds ++ r) a n (sym e))
within (d ∷ ds) (x ∷ es) r q a n e =
    let head : d ≡ x = cc in
    let rest = within ds es r q a.1 n cc in
    (rest.0, (λ i. sym head i ∷ rest.1 i))

front_taken : (ds fs : List ℕ) → take (length ds) (ds ++ fs) ≡ ds
front_taken [] fs = refl
front_taken (d ∷ ds) fs = ap (λ l. d ∷ l) (front_taken ds fs)

-- digits at the front of a numeral write no more than the numeral
pub front_fits : (n : ℕ) (line rest ds r : List ℕ) → n < 2 ^ 64 → IsNumberEnd rest → line ≡ decimal n ++ rest → AllDigits 10 ds → line ≡ ds ++ r → digits_value 10 ds < 2 ^ 64
front_fits n line rest ds r h end is all front =
    let found = within ds (decimal n) r rest all end (sym front ∙ is) in
    let value : digits_value 10 (decimal n) ≡ n = digits_value-decimal digits n h in
    let le = digits_value-take-le 10 (decimal n) (length ds) (omega arith) in
    let part : digits_value 10 (take (length ds) (decimal n)) ≡ digits_value 10 ds = ap (λ l. digits_value 10 (take (length ds) l)) found.1 ∙ ap (digits_value 10) (front_taken ds found.0) in
    omega (arith, value, le, part, h)

-- a numeral at the front of a line is all digits at the front
pub front_is : (n : ℕ) (line rest front behind : List ℕ) → n < 2 ^ 64 → IsNumberEnd rest → line ≡ decimal n ++ rest → AllDigits 10 front → IsNumberEnd behind → line ≡ front ++ behind
    → (front ≡ decimal n) × (behind ≡ rest)
front_is n line rest front behind h end is all ends whole =
    same_end front (decimal n) behind rest all (digits_decimal digits n h) ends end (sym whole ∙ is)

-- what doesn't start plainly is no numeral
pub not_plain : (n : ℕ) (line rest front behind : List ℕ) → n < 2 ^ 64 → IsNumberEnd rest → line ≡ decimal n ++ rest → AllDigits 10 front → IsNumberEnd behind → line ≡ front ++ behind
    → starts_plainly front ≡ false → ⊥
not_plain n line rest front behind h end is all ends whole odd =
    let same = front_is n line rest front behind h end is all ends whole in
    true≢false (sym (plain_numeral n h) ∙ ap starts_plainly (sym same.0) ∙ odd)

-- one digit more is more than a numeral at the front could have
pub too_many : (n : ℕ) (line rest : List ℕ) (i : ℕ) → n < 2 ^ 64 → IsNumberEnd rest → line ≡ decimal n ++ rest → i < length line → IsInRange 48 57 (get_or line i 0)
    → AllDigits 10 (take (i + 1) line) → digits_value 10 (take i line) * 10 + (get_or line i 0 - 48) < 2 ^ 64
too_many n line rest i h end is l range all =
    let more = more_value line i l range in
    let fits = front_fits n line rest (take (i + 1) line) (drop (i + 1) line) h end is all (sym (take-append-drop (i + 1) line)) in
    omega (arith, more, fits)

-- nothing stands behind a numeral that is the whole line
pub nothing_behind : (n m : ℕ) (line rest : List ℕ) → n < 2 ^ 64 → m < 2 ^ 64 → line ≡ decimal m ++ rest → IsNumberEnd rest → line ≡ decimal n → rest ≡ []
nothing_behind n m line rest h k is end whole =
    (same_end (decimal m) (decimal n) rest [] (digits_decimal digits m k) (digits_decimal digits n h) end tt (sym is ∙ whole ∙ sym (append-nil (decimal n)))).1
