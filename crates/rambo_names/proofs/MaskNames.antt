-- The names of a mask, in order and counted
use Rattle.std.proofs.Common.{◌≡◌, ℕ, zero, suc, ◌+◌, ◌/◌, ◌%◌, ◌^◌, ◌<◌, ◌≢◌, Bool, cond, nat_eq, [], ◌∷◌, filter, refl, sym, ap, ◌∙◌, arith}
use Rattle.std.specs.Prelude.{count_ones}
use Rattle.std.proofs.lemmas.Bool.Decides.{nat_tests}
use Rattle.std.proofs.lemmas.Nat.Bits.{bit_at-suc, bit_at_lowest}
use Rattle.std.specs.Int.{bit_at}
use Rattle.std.specs.FinSet.{contains}
use lib.Count.{ones_step, ones-le}
use Rattle.rambo_names.specs.Names.{rising, names, how_many, count_of}
use Rattle.rambo_names.specs.Masks.{has_bit, names_from, set_of}
use Rattle.rambo_names.proofs.MaskSteps.{at_place}

lowest : (b : ℕ) (t : Bool) → t ≡ has_bit b 0 → nat_eq (b % 2) 1 ≡ t
lowest b t e = ap (λ x. nat_eq x 1) (sym (bit_at_lowest b)) ∙ sym e

-- the numbers from n on whose bits are set
names_from-filter : (p : ℕ → Bool) (k n b : ℕ) → ((j : ℕ) → j < k → p (n + j) ≡ has_bit b j) → names_from k n b ≡ filter p (rising k n)
unfolding names_from rising
names_from-filter p zero n b each = refl
names_from-filter p (suc k) n b each =
    let first : p n ≡ has_bit b 0 = ap p (omega arith) ∙ each 0 (omega arith) in
    let rest = names_from-filter p k (n + 1) (b / 2) (λ j h. ap p (omega arith) ∙ each (suc j) (omega arith) ∙ ap (λ x. nat_eq x 1) (bit_at-suc b j)) in
    λ i. cond (lowest b (p n) first i) (n ∷ rest i) (rest i)

pub names-set_of : (b : ℕ) → names_from 64 1 b ≡ names (set_of b)
unfolding names
names-set_of b = names_from-filter (contains (set_of b)) 64 1 b (λ j h. ap (contains (set_of b)) (omega arith) ∙ at_place b j h)

none_set : count_ones 0 ≡ 0
none_set = omega (arith, ones-le 0 0 (omega arith))

digit : (b : ℕ) → b % 2 ≡ cond (nat_eq (b % 2) 1) 1 0
digit b = grind (arith, nat_tests)

count-filter : (p : ℕ → Bool) (k n b : ℕ) → b < 2 ^ k → ((j : ℕ) → j < k → p (n + j) ≡ has_bit b j) → count_ones b ≡ how_many p (rising k n)
unfolding rising
count-filter p zero n b h each = ap count_ones (let e : b ≡ 0 = omega arith in e) ∙ none_set
count-filter p (suc k) n b h each =
    let first : p n ≡ has_bit b 0 = ap p (omega arith) ∙ each 0 (omega arith) in
    let rest = count-filter p k (n + 1) (b / 2) (omega arith) (λ j h. ap p (omega arith) ∙ each (suc j) (omega arith) ∙ ap (λ x. nat_eq x 1) (bit_at-suc b j)) in
    ones_step b ∙ (λ i. digit b i + rest i) ∙ ap (λ t. cond t 1 0 + how_many p (rising k (n + 1))) (lowest b (p n) first)

pub count-set_of : (b : ℕ) → b < 2 ^ 64 → count_ones b ≡ count_of (set_of b)
unfolding count_of
count-set_of b h = count-filter (contains (set_of b)) 64 1 b h (λ j h. ap (contains (set_of b)) (omega arith) ∙ at_place b j h)

pub names_from-zero : (k n : ℕ) → names_from k n 0 ≡ []
unfolding names_from
names_from-zero zero n = refl
names_from-zero (suc k) n = names_from-zero k (n + 1)

bit_is : (b : ℕ) (x : ℕ) → bit_at b 0 ≡ x → nat_eq (b % 2) 1 ≡ nat_eq x 1
bit_is b x e = ap (λ y. nat_eq y 1) (sym (bit_at_lowest b) ∙ e)

-- two masks with the same bits below k have the same names
names_from-same : (k n b c : ℕ) → ((i : ℕ) → i < k → bit_at c i ≡ bit_at b i) → names_from k n c ≡ names_from k n b
unfolding names_from
names_from-same zero n b c each = refl
names_from-same (suc k) n b c each =
    let rest = names_from-same k (n + 1) (b / 2) (c / 2) (λ i h. sym (bit_at-suc c i) ∙ each (suc i) (omega arith) ∙ bit_at-suc b i) in
    let t = bit_is c (bit_at b 0) (each 0 (omega arith)) ∙ sym (bit_is b (bit_at b 0) refl) in
    λ i. cond (t i) (n ∷ rest i) (rest i)

-- the lowest bit that is set gives the first name, and without it come the others
pub names_from-first : (k n b c t : ℕ) → t < k → bit_at b t ≡ 1 → ((i : ℕ) → i < t → bit_at b i ≡ 0) → bit_at c t ≡ 0
    → ((i : ℕ) → i < k → i ≢ t → bit_at c i ≡ bit_at b i) → names_from k n b ≡ (n + t) ∷ names_from k n c
unfolding names_from
names_from-first zero n b c t h one low none each = absurd (omega arith)
names_from-first (suc k) n b c zero h one low none each =
    let rest = names_from-same k (n + 1) (b / 2) (c / 2) (λ i h. sym (bit_at-suc c i) ∙ each (suc i) (omega arith) (omega arith) ∙ bit_at-suc b i) in
    (λ i. cond (bit_is b 1 one i) (n ∷ names_from k (n + 1) (b / 2)) (names_from k (n + 1) (b / 2)))
    ∙ (λ i. (let e : n ≡ n + 0 = omega arith in e i) ∷ sym rest i)
    ∙ (λ i. (n + 0) ∷ cond (sym (bit_is c 0 none) i) (n ∷ names_from k (n + 1) (c / 2)) (names_from k (n + 1) (c / 2)))
names_from-first (suc k) n b c (suc t) h one low none each =
    let rest = names_from-first k (n + 1) (b / 2) (c / 2) t (omega arith) (sym (bit_at-suc b t) ∙ one)
    (λ i h. sym (bit_at-suc b i) ∙ low (suc i) (omega arith)) (sym (bit_at-suc c t) ∙ none)
    (λ i h ne. sym (bit_at-suc c i) ∙ each (suc i) (omega arith) (omega arith) ∙ bit_at-suc b i) in
    (λ i. cond (bit_is b 0 (low 0 (omega arith)) i) (n ∷ names_from k (n + 1) (b / 2)) (names_from k (n + 1) (b / 2)))
    ∙ rest
    ∙ (λ i. (let e : (n + 1) + t ≡ n + suc t = omega arith in e i) ∷ names_from k (n + 1) (c / 2))
    ∙ (λ i. (n + suc t) ∷ cond (sym (bit_is c 0 (each 0 (omega arith) (omega arith) ∙ low 0 (omega arith))) i) (n ∷ names_from k (n + 1) (c / 2)) (names_from k (n + 1) (c / 2)))
