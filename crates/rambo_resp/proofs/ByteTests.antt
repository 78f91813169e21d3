-- What tests tell of bytes and numbers
use Rattle.std.proofs.Common.{◌≡◌, ◌≢◌, ℕ, ◌+◌, ◌-◌, ◌*◌, ◌/◌, ◌%◌, ◌<◌, ◌≤◌, ◌^◌, ◌⊎◌, Bool, true, false, cond, not, ◌&&◌, ◌==◌, nat_le, [], ◌∷◌, ◌++◌, Option, Some, None, decimal, refl, sym, ap, ◌∙◌, subst, arith, inl, inr}
use Rattle.std.proofs.lemmas.Bool.Decides.{nat_tests}
use Rattle.std.proofs.lemmas.Fmt.{decimal_digit, decimal_step}
use Rattle.std.specs.Char.{is_ascii_digit}
use Rattle.rambo_resp.specs.Rests.{goes_on}
use Rattle.rambo_resp.specs.Progresses.{longer, grown}

pub same : (a b : ℕ) → (a == b) ≡ true → a ≡ b
same a b e = grind (arith, nat_tests)

pub apart : (a b : ℕ) → (a == b) ≡ false → a ≢ b
apart a b e = λ p. grind (arith, nat_tests)

pub if_some : {A : Type 0} (t : Bool) (x a : A) → cond t (Some x) None ≡ Some a → (t ≡ true) × (x ≡ a)
if_some true x a e = (refl, cc)
if_some false x a e = cc

pub if_or : {A : Type 0} (t : Bool) (x a : A) (o : Option A) → cond t (Some x) o ≡ Some a → ((t ≡ true) × (x ≡ a)) ⊎ ((t ≡ false) × (o ≡ Some a))
if_or true x a o e = inl (refl, cc)
if_or false x a o e = inr (refl, e)

pub digit_range : (b : ℕ) → is_ascii_digit b ≡ true → (48 ≤ b) × (b ≤ 57)
digit_range b e = (grind (arith, nat_tests), grind (arith, nat_tests))

-- a digit is the numeral of its value
pub one_digit : (b : ℕ) → is_ascii_digit b ≡ true → (decimal (b - 48) ≡ b ∷ []) × (b - 48 ≤ 9)
one_digit b e =
    let r = digit_range b e in
    let back : 48 + (b - 48) ≡ b = omega (arith, r.0, r.1) in
    (decimal_digit (b - 48) (omega (arith, r.0, r.1)) ∙ ap (λ x. x ∷ []) back, omega (arith, r.0, r.1))

both : (s t : Bool) → (s && t) ≡ true → (s ≡ true) × (t ≡ true)
both true t e = (refl, e)
both false t e = cc

is_most : (a b : ℕ) → nat_le a b ≡ true → a ≤ b
is_most a b e = grind (arith, nat_tests)

not_zero : (n : ℕ) → not (n == 0) ≡ true → 1 ≤ n
not_zero n e = grind (arith, nat_tests)

quotient : (n d m : ℕ) → m ≡ 10 * n + d → d ≤ 9 → (m / 10 ≡ n) × (m % 10 ≡ d)
quotient n d m e h = (omega (arith, e, h), omega (arith, e, h))

-- a number that has grown is spelled by one digit more
pub grown_some : (n b most m : ℕ) → most < 2 ^ 64 → grown n b most ≡ Some m → (decimal m ≡ decimal n ++ b ∷ []) × (m ≤ most)
grown_some n b most m small e =
    let k = if_some (goes_on n b && nat_le (longer n b) most) (longer n b) m e in
    let t = both _ _ k.0 in
    let g = both _ _ t.0 in
    let r = digit_range b g.0 in
    let pos = not_zero n g.1 in
    let le : longer n b ≤ most = is_most _ _ t.1 in
    let le_m : m ≤ most = subst (λ x. x ≤ most) k.1 le in
    let val : m ≡ 10 * n + (b - 48) = sym k.1 in
    let q = quotient n (b - 48) m val (omega (arith, r.0, r.1)) in
    let big : 10 ≤ m = omega (arith, val, pos) in
    let digit : 48 + m % 10 ≡ b = omega (arith, q.1, r.0) in
    (decimal_step m big (omega (arith, le_m, small)) ∙ ap (λ x. decimal x ++ (48 + m % 10) ∷ []) q.0 ∙ ap (λ x. decimal n ++ x ∷ []) digit, le_m)
