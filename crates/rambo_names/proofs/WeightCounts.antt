-- Weights by counts of the digits
use Rattle.std.proofs.Common.{◌≡◌, ℕ, ◌+◌, ◌*◌, Bool, true, false, cond, ◌&&◌, List, [], ◌∷◌, refl, sym, ap, ◌∙◌, arith}
use Rattle.std.specs.Prelude.{nat_lt}
use Rattle.std.specs.Cmp.{nat_cmp_total}
use Rattle.std.specs.Ordering.{nat_cmp}
use Rattle.std.specs.FinSet.{contains, empty, intersection, contains-intersection, contains-empty}
use Rattle.rambo_names.specs.Names.{NameSet, rising, how_many, count_of}
use Rattle.rambo_names.specs.Quorums.{is_majority}
use Rattle.rambo_names.specs.Weights.{Weights, weight_of, weight_among, total, held, outweighs, evenly}

-- a digit that is worth w counts where its name passes too
digit : (w : ℕ) (a t : Bool) → cond t (cond a w 0) 0 ≡ w * cond (a && t) 1 0
digit w true true = omega arith
digit w true false = omega arith
digit w false true = omega arith
digit w false false = omega arith

four : (t : Bool) (x y z u : ℕ) → cond t (x + y + z + u) 0 ≡ cond t x 0 + cond t y 0 + cond t z 0 + cond t u 0
four true x y z u = refl
four false x y z u = refl

-- one name
name_step : (t o w f e : Bool) → cond t (cond o 1 0 + cond w 2 0 + cond f 4 0 + cond e 8 0) 0 ≡ cond (o && t) 1 0 + 2 * cond (w && t) 1 0 + 4 * cond (f && t) 1 0 + 8 * cond (e && t) 1 0
name_step t o w f e =
    omega (arith, four t (cond o 1 0) (cond w 2 0) (cond f 4 0) (cond e 8 0), digit 1 o t, digit 2 w t, digit 4 f t, digit 8 e t)

sums : (n a b c d m p q r s x y : ℕ) → n ≡ a + 2 * b + 4 * c + 8 * d → m ≡ p + 2 * q + 4 * r + 8 * s → n + m ≡ (a + p) + 2 * (b + q) + 4 * (c + r) + 8 * (d + s)
sums n a b c d m p q r s x y h k = omega arith

-- what passes a test weighs as its digits are counted
pub weight_counts : (c : Weights) (p : ℕ → Bool) (ns : List ℕ) → weight_among c p ns
    ≡ how_many (λ n. contains c.ones n && p n) ns + 2 * how_many (λ n. contains c.twos n && p n) ns
    + 4 * how_many (λ n. contains c.fours n && p n) ns + 8 * how_many (λ n. contains c.eights n && p n) ns
weight_counts c p [] = refl
weight_counts c p (x ∷ xs) =
    sums (cond (p x) (weight_of c x) 0) (cond (contains c.ones x && p x) 1 0) (cond (contains c.twos x && p x) 1 0) (cond (contains c.fours x && p x) 1 0) (cond (contains c.eights x && p x) 1 0)
    (weight_among c p xs) (how_many (λ n. contains c.ones n && p n) xs) (how_many (λ n. contains c.twos n && p n) xs)
    (how_many (λ n. contains c.fours n && p n) xs) (how_many (λ n. contains c.eights n && p n) xs) 0 0
    (name_step (p x) (contains c.ones x) (contains c.twos x) (contains c.fours x) (contains c.eights x)) (weight_counts c p xs)

pub counts_same : (p q : ℕ → Bool) → ((n : ℕ) → p n ≡ q n) → (ns : List ℕ) → how_many p ns ≡ how_many q ns
counts_same p q each [] = refl
counts_same p q each (x ∷ xs) = λ i. cond (each x i) 1 0 + counts_same p q each xs i

and-true : (a : Bool) → (a && true) ≡ a
and-true true = refl
and-true false = refl

whole : (s : NameSet) → how_many (λ n. contains s n && true) (rising 64 1) ≡ count_of s
unfolding count_of
whole s = counts_same (λ n. contains s n && true) (contains s) (λ n. and-true (contains s n)) (rising 64 1)

within : (s who : NameSet) → how_many (λ n. contains s n && contains who n) (rising 64 1) ≡ count_of (intersection s who)
unfolding count_of
within s who = counts_same (λ n. contains s n && contains who n) (contains (intersection s who)) (λ n. sym (contains-intersection nat_cmp_total s who n)) (rising 64 1)

pub total-counts : (c : Weights) → total c ≡ count_of c.ones + 2 * count_of c.twos + 4 * count_of c.fours + 8 * count_of c.eights
unfolding total
total-counts c =
    weight_counts c (λ _. true) (rising 64 1) ∙ (λ i. whole c.ones i + 2 * whole c.twos i + 4 * whole c.fours i + 8 * whole c.eights i)

pub held-counts : (c : Weights) (who : NameSet) → held c who
    ≡ count_of (intersection c.ones who) + 2 * count_of (intersection c.twos who) + 4 * count_of (intersection c.fours who) + 8 * count_of (intersection c.eights who)
unfolding held
held-counts c who =
    weight_counts c (contains who) (rising 64 1)
    ∙ (λ i. within c.ones who i + 2 * within c.twos who i + 4 * within c.fours who i + 8 * within c.eights who i)

none-among : (ns : List ℕ) (p : ℕ → Bool) → ((n : ℕ) → p n ≡ false) → how_many p ns ≡ 0
none-among [] p each = refl
none-among (x ∷ xs) p each = (λ i. cond (each x i) 1 0 + none-among xs p each i)

none : count_of (empty {R = nat_cmp}) ≡ 0
unfolding count_of
none = none-among (rising 64 1) (contains (empty {R = nat_cmp})) (contains-empty nat_cmp)

none-within : (who : NameSet) → count_of (intersection (empty {R = nat_cmp}) who) ≡ 0
unfolding count_of
none-within who =
    none-among (rising 64 1) (contains (intersection (empty {R = nat_cmp}) who))
    (λ n. contains-intersection nat_cmp_total (empty {R = nat_cmp}) who n ∙ ap (λ t. t && contains who n) (contains-empty nat_cmp n))

pub evenly-total : (members : NameSet) → total (evenly members) ≡ count_of members
evenly-total members = omega (arith, total-counts (evenly members), none)

pub evenly-held : (members who : NameSet) → held (evenly members) who ≡ count_of (intersection members who)
evenly-held members who = omega (arith, held-counts (evenly members) who, none-within who)

-- where all weigh 1 the weighted majorities are the majorities
pub evenly-majority : (members who : NameSet) → outweighs (evenly members) who ≡ is_majority members who
evenly-majority members who = λ i. nat_lt (evenly-total members i) (2 * evenly-held members who i)

-- what is counted digit by digit
pub total_is : (c : Weights) (a b d e : ℕ) → a ≡ count_of c.ones → b ≡ count_of c.twos → d ≡ count_of c.fours → e ≡ count_of c.eights → a + 2 * b + 4 * d + 8 * e ≡ total c
total_is c a b d e f g h k = omega (arith, total-counts c, f, g, h, k)

pub held_is : (c : Weights) (who : NameSet) (a b d e : ℕ) → a ≡ count_of (intersection c.ones who) → b ≡ count_of (intersection c.twos who) → d ≡ count_of (intersection c.fours who) → e ≡ count_of (intersection c.eights who)
    → a + 2 * b + 4 * d + 8 * e ≡ held c who
held_is c who a b d e f g h k = omega (arith, held-counts c who, f, g, h, k)
