-- What the operations on masks do to the sets that they stand for
use Rattle.std.proofs.Common.{◌≡◌, ℕ, ◌+◌, ◌-◌, ◌*◌, ◌/◌, ◌%◌, ◌^◌, ◌<◌, ◌≤◌, ◌≢◌, inl, inr, Bool, true, false, nat_eq, not, ◌&&◌, ◌||◌, sym, ap, ◌∙◌, true≢false, arith, bit_and, bit_or, w64, min, max}
use Rattle.std.proofs.lemmas.Bool.{cases_lt}
use Rattle.std.proofs.lemmas.Bool.Decides.{nat_tests, same_from_decides, Decides-eqb}
use Rattle.std.proofs.lemmas.Nat.Bits.{bit_at-zero, bit_at_and, bit_at_or, bit_at-lt, bit_at_set_same, bit_at_set_other, bit_at_clear_same, bit_at_clear_other, same_from_bits_below, shr_and_one}
use lib.Bits.{and_le_l}
use mir.Val.{bits}
use Rattle.std.specs.Int.{bit_at, bit_not}
use Rattle.std.specs.Ordering.{nat_cmp, eq_by_cmp}
use Rattle.std.specs.Cmp.{nat_cmp_total, unsigned_tied}
use Rattle.std.specs.FinSet.{contains, empty, insert, remove, union, is_subset, contains-empty, contains-insert, contains-remove, contains-union, intersection, contains-intersection, is_subset-contains, contains-is_subset, same_set, nat_cmp-IsAntisymmetric}
use Rattle.rambo_names.specs.Names.{NameSet, same_names}
use Rattle.rambo_names.specs.Same.{same_names-decides, same_names-path}
use Rattle.rambo_names.specs.Masks.{has_bit, set_of, mask_of, mask_of-set_of, contains-set_of, contains-set_of-none, contains-set_of-past}

-- a set is that of a mask where it answers as the mask's bits do
pub set_of-is : (b : ℕ) (s : NameSet) → contains s 0 ≡ false → ((q : ℕ) → 64 < q → contains s q ≡ false)
    → ((i : ℕ) → i < 64 → contains s (i + 1) ≡ has_bit b i) → set_of b ≡ s
set_of-is b s none past each =
    same_set nat_cmp_total nat_cmp-IsAntisymmetric (set_of b) s
    (λ q. elim (cases_lt 64 q) [
      | inl h ↦ contains-set_of-past b q h ∙ sym (past q h)
      | inr h ↦ elim (cases_lt 0 q) [
        | inl p ↦ contains-set_of b q (omega arith) (omega arith) ∙ sym (each (q - 1) (omega arith)) ∙ ap (contains s) (omega arith)
        | inr z ↦ contains-set_of-none b q (omega arith) ∙ sym none ∙ ap (contains s) (omega arith)
      ]
    ])

pub set_of-zero : set_of 0 ≡ empty
set_of-zero = set_of-is 0 empty (contains-empty nat_cmp 0) (λ q _. contains-empty nat_cmp q)
    (λ i _. contains-empty nat_cmp (i + 1) ∙ ap (λ x. nat_eq x 1) (sym (bit_at-zero i)))

abbrev bit_put : ℕ → ℕ → ℕ
bit_put b k = bit_or b (1 * 2 ^ k % 2 ^ 64)

at_bit : (b c k i : ℕ) → i ≢ k → bit_at c i ≡ bit_at b i → (nat_eq (i + 1) (k + 1) || has_bit b i) ≡ has_bit c i
at_bit b c k i ne e = grind (arith, nat_tests)

at_same : (c k : ℕ) (t : Bool) → bit_at c k ≡ 1 → (nat_eq (k + 1) (k + 1) || t) ≡ has_bit c k
at_same c k t e = grind (arith, nat_tests)

put_at : (b k i : ℕ) → k < 64 → (nat_eq (i + 1) (k + 1) || has_bit b i) ≡ has_bit (bit_put b k) i
put_at b k i h =
    elim (cases_lt i k) [
      | inl lt ↦ at_bit b (bit_put b k) k i (omega arith) (bit_at_set_other w64 b k h i (omega arith))
      | inr ge ↦ elim (cases_lt k i) [
        | inl gt ↦ at_bit b (bit_put b k) k i (omega arith) (bit_at_set_other w64 b k h i (omega arith))
        | inr le ↦
            let same : i ≡ k = omega arith in
            rw same (at_same (bit_put b k) k (has_bit b k) (bit_at_set_same w64 b k h))
      ]
    ]

or_false : (x y : Bool) → x ≡ false → y ≡ false → (x || y) ≡ false
or_false x y e f = cc

differ : (q n : ℕ) → q ≢ n → eq_by_cmp nat_cmp q n ≡ false
differ q n h = unsigned_tied q n ∙ grind (arith, nat_tests)

pub set_of-put : (b n : ℕ) → 1 ≤ n → n ≤ 64 → set_of (bit_put b (n - 1)) ≡ insert (set_of b) n
set_of-put b n low high =
    set_of-is (bit_put b (n - 1)) (insert (set_of b) n)
    (contains-insert nat_cmp_total (set_of b) n 0 ∙ or_false _ _ (differ 0 n (omega arith)) (contains-set_of-none b 0 (omega arith)))
    (λ q past. contains-insert nat_cmp_total (set_of b) n q ∙ or_false _ _ (differ q n (omega arith)) (contains-set_of-past b q past))
    (λ i h. contains-insert nat_cmp_total (set_of b) n (i + 1)
    ∙ ap (λ t. t || contains (set_of b) (i + 1)) (unsigned_tied (i + 1) n)
    ∙ ap (λ t. nat_eq (i + 1) n || t) (contains-set_of b (i + 1) (omega arith) (omega arith))
    ∙ ap (λ x. nat_eq (i + 1) n || has_bit b x) (omega arith)
    ∙ ap (λ x. nat_eq (i + 1) x || has_bit b i) (omega arith)
    ∙ put_at b (n - 1) i (omega arith))

or_at : (a b x y : ℕ) → x < 2 → y < 2 → (nat_eq x 1 || nat_eq y 1) ≡ nat_eq (max x y) 1
or_at a b x y h k = grind (arith, nat_tests)

pub at_place : (b i : ℕ) → i < 64 → contains (set_of b) (i + 1) ≡ has_bit b i
at_place b i h = contains-set_of b (i + 1) (omega arith) (omega arith) ∙ ap (has_bit b) (omega arith)

pub set_of-or : (a b : ℕ) → set_of (bit_or a b) ≡ union (set_of a) (set_of b)
set_of-or a b =
    set_of-is (bit_or a b) (union (set_of a) (set_of b))
    (contains-union nat_cmp_total (set_of a) (set_of b) 0
    ∙ or_false _ _ (contains-set_of-none a 0 (omega arith)) (contains-set_of-none b 0 (omega arith)))
    (λ q past. contains-union nat_cmp_total (set_of a) (set_of b) q
    ∙ or_false _ _ (contains-set_of-past a q past) (contains-set_of-past b q past))
    (λ i h. contains-union nat_cmp_total (set_of a) (set_of b) (i + 1)
    ∙ ap (λ t. t || contains (set_of b) (i + 1)) (at_place a i h)
    ∙ ap (λ t. has_bit a i || t) (at_place b i h)
    ∙ or_at a b (bit_at a i) (bit_at b i) (bit_at-lt a i) (bit_at-lt b i)
    ∙ ap (λ x. nat_eq x 1) (sym (bit_at_or a b i)))

under : (x y : ℕ) → x < 2 → y < 2 → (nat_eq x 1 ≡ true → nat_eq y 1 ≡ true) → min x y ≡ x
under x y h k f = grind (arith, nat_tests)

over : (x y : ℕ) → min x y ≡ x → nat_eq x 1 ≡ true → y < 2 → nat_eq y 1 ≡ true
over x y e t h = grind (arith, nat_tests)

subset_bits : (a b : ℕ) → a < 2 ^ 64 → is_subset (set_of a) (set_of b) ≡ true → bit_and a b ≡ a
subset_bits a b h sub =
    same_from_bits_below 64 (bit_and a b) a (omega (arith, and_le_l a b)) h
    (λ i below. bit_at_and a b i ∙ under (bit_at a i) (bit_at b i) (bit_at-lt a i) (bit_at-lt b i)
    (λ t. sym (at_place b i below) ∙ is_subset-contains nat_cmp_total (set_of a) (set_of b) sub (i + 1) (at_place a i below ∙ t)))

bits_subset : (a b : ℕ) → bit_and a b ≡ a → is_subset (set_of a) (set_of b) ≡ true
bits_subset a b e =
    contains-is_subset nat_cmp_total (set_of a) (set_of b)
    (λ q h. elim (cases_lt 64 q) [
      | inl past ↦ absurd (true≢false (sym h ∙ contains-set_of-past a q past))
      | inr low ↦ elim (cases_lt 0 q) [
        | inl p ↦
            contains-set_of b q (omega arith) low
            ∙ over (bit_at a (q - 1)) (bit_at b (q - 1)) (sym (bit_at_and a b (q - 1)) ∙ ap (λ x. bit_at x (q - 1)) e)
            (sym (contains-set_of a q (omega arith) low) ∙ h) (bit_at-lt b (q - 1))
        | inr z ↦ absurd (true≢false (sym h ∙ contains-set_of-none a q (omega arith)))
      ]
    ])

pub subset_test : (a b : ℕ) → a < 2 ^ 64 → nat_eq (bit_and a b) a ≡ is_subset (set_of a) (set_of b)
subset_test a b h =
    same_from_decides _ _ (Decides-eqb (bit_and a b) a) (subset_bits a b h, bits_subset a b)

pub same_test : (a b : ℕ) → a < 2 ^ 64 → b < 2 ^ 64 → nat_eq a b ≡ same_names (set_of a) (set_of b)
same_test a b h k =
    same_from_decides _ _ (Decides-eqb a b) (
      (λ e. sym (mask_of-set_of a h) ∙ ap mask_of (same_names-path _ _ e) ∙ mask_of-set_of b k),
      λ e. (same_names-decides (set_of a) (set_of b)).1 (ap set_of e),
    )

and_at : (x y : ℕ) → x < 2 → y < 2 → (nat_eq x 1 && nat_eq y 1) ≡ nat_eq (min x y) 1
and_at x y h k = grind (arith, nat_tests)

and_false : (x y : Bool) → x ≡ false → (x && y) ≡ false
and_false x y e = cc

pub set_of-and : (a b : ℕ) → set_of (bit_and a b) ≡ intersection (set_of a) (set_of b)
set_of-and a b =
    set_of-is (bit_and a b) (intersection (set_of a) (set_of b))
    (contains-intersection nat_cmp_total (set_of a) (set_of b) 0 ∙ and_false _ _ (contains-set_of-none a 0 (omega arith)))
    (λ q past. contains-intersection nat_cmp_total (set_of a) (set_of b) q ∙ and_false _ _ (contains-set_of-past a q past))
    (λ i h. contains-intersection nat_cmp_total (set_of a) (set_of b) (i + 1)
    ∙ (λ j. at_place a i h j && at_place b i h j)
    ∙ and_at (bit_at a i) (bit_at b i) (bit_at-lt a i) (bit_at-lt b i)
    ∙ ap (λ x. nat_eq x 1) (sym (bit_at_and a b i)))

pub has_test : (b n : ℕ) → 1 ≤ n → n ≤ 64 → nat_eq (bit_and (b / 2 ^ (n - 1)) 1) 1 ≡ contains (set_of b) n
has_test b n low high = ap (λ x. nat_eq x 1) (shr_and_one b (n - 1)) ∙ sym (contains-set_of b n low high)

abbrev pub bit_clear : ℕ → ℕ → ℕ
bit_clear b k = bit_and b (bit_not w64 (1 * 2 ^ k % 2 ^ bits w64))

clear_other : (b c k i : ℕ) → i ≢ k → bit_at c i ≡ bit_at b i → (not (nat_eq (i + 1) (k + 1)) && has_bit b i) ≡ has_bit c i
clear_other b c k i ne e = grind (arith, nat_tests)

clear_same : (c k : ℕ) (t : Bool) → bit_at c k ≡ 0 → (not (nat_eq (k + 1) (k + 1)) && t) ≡ has_bit c k
clear_same c k t e = grind (arith, nat_tests)

clear_at : (b k i : ℕ) → k < 64 → i < 64 → (not (nat_eq (i + 1) (k + 1)) && has_bit b i) ≡ has_bit (bit_clear b k) i
clear_at b k i h low =
    elim (cases_lt i k) [
      | inl lt ↦ clear_other b (bit_clear b k) k i (omega arith) (bit_at_clear_other w64 b k h i low (omega arith))
      | inr ge ↦ elim (cases_lt k i) [
        | inl gt ↦ clear_other b (bit_clear b k) k i (omega arith) (bit_at_clear_other w64 b k h i low (omega arith))
        | inr le ↦
            let same : i ≡ k = omega arith in
            rw same (clear_same (bit_clear b k) k (has_bit b k) (bit_at_clear_same w64 b k h))
      ]
    ]

and_none : (x y : Bool) → y ≡ false → (x && y) ≡ false
and_none true y e = e
and_none false y e = λ i. false

pub set_of-clear : (b n : ℕ) → 1 ≤ n → n ≤ 64 → set_of (bit_clear b (n - 1)) ≡ remove (set_of b) n
set_of-clear b n low high =
    set_of-is (bit_clear b (n - 1)) (remove (set_of b) n)
    (contains-remove nat_cmp_total (set_of b) n 0 ∙ and_none _ _ (contains-set_of-none b 0 (omega arith)))
    (λ q past. contains-remove nat_cmp_total (set_of b) n q ∙ and_none _ _ (contains-set_of-past b q past))
    (λ i h. contains-remove nat_cmp_total (set_of b) n (i + 1)
    ∙ ap (λ t. not t && contains (set_of b) (i + 1)) (unsigned_tied (i + 1) n)
    ∙ ap (λ t. not (nat_eq (i + 1) n) && t) (at_place b i h)
    ∙ ap (λ x. not (nat_eq (i + 1) x) && has_bit b i) (omega arith)
    ∙ clear_at b (n - 1) i (omega arith) h)
