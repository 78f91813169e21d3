-- One name's weight is changed
use Rattle.std.proofs.Common.{◌≡◌, ℕ, zero, suc, ◌+◌, ◌≤◌, ◌<◌, Bool, true, false, cond, not, nat_eq, ◌&&◌, ◌||◌, bit_and, refl, ap, ◌∙◌, arith, inl, inr, subst}
use Rattle.std.specs.Prelude.{if◌then◌else◌}
use Rattle.std.proofs.lemmas.Bool.{cases_lt}
use Rattle.std.proofs.lemmas.Bool.Decides.{nat_tests}
use Rattle.std.specs.Cmp.{nat_cmp_total, unsigned_tied}
use Rattle.std.specs.FinSet.{contains, contains-insert, contains-remove}
use Rattle.rambo_names.specs.Names.{NameSet}
use Rattle.rambo_names.specs.Weights.{Weights, weight_of, digit_put}

put_in : (t x : Bool) → (t || x) ≡ (if t then true else x)
put_in true x = refl
put_in false x = refl

taken_out : (t x : Bool) → (not t && x) ≡ (if t then false else x)
taken_out true x = refl
taken_out false x = refl

digit_at : (s : NameSet) (name : ℕ) (b : Bool) (n : ℕ) → contains (digit_put s name b) n ≡ (if nat_eq n name then b else contains s n)
digit_at s name true n = contains-insert nat_cmp_total s name n ∙ ap (λ t. t || contains s n) (unsigned_tied n name) ∙ put_in (nat_eq n name) (contains s n)
digit_at s name false n = contains-remove nat_cmp_total s name n ∙ ap (λ t. not t && contains s n) (unsigned_tied n name) ∙ taken_out (nat_eq n name) (contains s n)

weight_at : (t : Bool) (a b d e o w f g : Bool) (m : ℕ) → cond a 1 0 + cond b 2 0 + cond d 4 0 + cond e 8 0 ≡ m
    → cond (if t then a else o) 1 0 + cond (if t then b else w) 2 0 + cond (if t then d else f) 4 0 + cond (if t then e else g) 8 0
    ≡ (if t then m else (cond o 1 0 + cond w 2 0 + cond f 4 0 + cond g 8 0))
weight_at true a b d e o w f g m h = h
weight_at false a b d e o w f g m h = refl

-- the weight of this name is the new one, and the others stay
pub weighed_at : (c : Weights) (name m : ℕ) (a b d e : Bool) → cond a 1 0 + cond b 2 0 + cond d 4 0 + cond e 8 0 ≡ m → (n : ℕ)
    → weight_of (record { ones = digit_put c.ones name a; twos = digit_put c.twos name b; fours = digit_put c.fours name d; eights = digit_put c.eights name e }) n
    ≡ (if nat_eq n name then m else weight_of c n)
weighed_at c name m a b d e h n =
    (λ i. cond (digit_at c.ones name a n i) 1 0 + cond (digit_at c.twos name b n i) 2 0 + cond (digit_at c.fours name d n i) 4 0 + cond (digit_at c.eights name e n i) 8 0)
    ∙ weight_at (nat_eq n name) a b d e (contains c.ones n) (contains c.twos n) (contains c.fours n) (contains c.eights n) m h

-- a test of the first k numbers
all_below : ℕ → (ℕ → Bool) → Bool
all_below zero p = true
all_below (suc k) p = p k && all_below k p

both : (a b : Bool) → (a && b) ≡ true → (a ≡ true) × (b ≡ true)
both true b e = (refl, e)
both false b e = cc

from_all : (k : ℕ) (p : ℕ → Bool) → all_below k p ≡ true → (n : ℕ) → n < k → p n ≡ true
unfolding all_below
from_all zero p h n low = absurd (omega arith)
from_all (suc k) p h n low =
    let e = both (p k) (all_below k p) h in
    elim (cases_lt n k) [
      | inl lt ↦ from_all k p e.1 n lt
      | inr ge ↦ let same : k ≡ n = omega arith in subst (λ m. p m ≡ true) same e.0
    ]

abbrev pub has_digit : ℕ → ℕ → Bool
has_digit w d = not (nat_eq (bit_and w d) 0)

abbrev spelt : ℕ → Bool
spelt w = nat_eq (cond (has_digit w 1) 1 0 + cond (has_digit w 2) 2 0 + cond (has_digit w 4) 4 0 + cond (has_digit w 8) 8 0) w

same_number : (a b : ℕ) → nat_eq a b ≡ true → a ≡ b
same_number a b e = grind (arith, nat_tests)

all_spelt : all_below 16 spelt ≡ true
unfolding all_below
all_spelt = refl

-- a weight is the sum of its digits
pub digits_spell : (w : ℕ) → w ≤ 15 → cond (has_digit w 1) 1 0 + cond (has_digit w 2) 2 0 + cond (has_digit w 4) 4 0 + cond (has_digit w 8) 8 0 ≡ w
digits_spell w h = same_number _ w (from_all 16 spelt all_spelt w (omega arith))
