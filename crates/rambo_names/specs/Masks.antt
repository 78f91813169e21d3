-- How a mask of 64 bits represents a set of names
use Rattle.std.specs.Prelude.{◌≡◌, ℕ, ◌+◌, ◌-◌, ◌*◌, ◌/◌, ◌%◌, ◌^◌, ◌<◌, ◌≤◌, ◌&&◌, ◌||◌, Bool, true, false, cond, nat_eq, List, [], ◌∷◌}
use Rattle.std.proofs.Common.{refl, sym, ap, ◌∙◌, arith, zero, suc}
use Rattle.std.proofs.lemmas.Bool.Decides.{nat_tests}
use Rattle.std.proofs.lemmas.Nat.Bits.{bit_at-suc, bit_at_lowest, bit_at-lt}
use Rattle.std.specs.Ordering.{nat_cmp}
use Rattle.std.specs.Int.{bit_at}
use Rattle.std.specs.FinSet.{FinSet, contains, from_list, contains-from_list_nat}
use Rattle.std.specs.List.{list_any}

-- whether place i of the mask is set
abbrev pub has_bit : ℕ → ℕ → Bool
has_bit bits i = nat_eq (bit_at bits i) 1

-- the names of the lowest k bits, the lowest of which is n
unfoldable pub names_from : ℕ → ℕ → ℕ → List ℕ
names_from zero n bits = []
names_from (suc k) n bits = cond (nat_eq (bits % 2) 1) (n ∷ names_from k (n + 1) (bits / 2)) (names_from k (n + 1) (bits / 2))

-- the mask of the k names from n on that are in the set
unfoldable pub mask_from : ℕ → ℕ → FinSet nat_cmp → ℕ
mask_from zero n s = 0
mask_from (suc k) n s = cond (contains s n) 1 0 + 2 * mask_from k (n + 1) s

unfoldable pub set_of : ℕ → FinSet nat_cmp
set_of bits = from_list (names_from 64 1 bits)

unfoldable pub mask_of : FinSet nat_cmp → ℕ
mask_of s = mask_from 64 1 s

abbrev among : List ℕ → ℕ → Bool
among xs q = list_any (λ y. nat_eq y q) xs

among-cond : (t : Bool) (n q : ℕ) (rest : List ℕ) → among (cond t (n ∷ rest) rest) q ≡ ((t && nat_eq n q) || among rest q)
among-cond true n q rest = refl
among-cond false n q rest = refl

not_here : (t : Bool) (n q : ℕ) (r : Bool) → q < n → r ≡ false → ((t && nat_eq n q) || r) ≡ false
not_here true n q r h e = grind (arith, nat_tests)
not_here false n q r h e = e

-- names_from has no name below its first
names_from-below : (k n b q : ℕ) → q < n → among (names_from k n b) q ≡ false
unfolding names_from
names_from-below zero n b q h = refl
names_from-below (suc k) n b q h =
    among-cond (nat_eq (b % 2) 1) n q _ ∙ not_here (nat_eq (b % 2) 1) n q _ h (names_from-below k (n + 1) (b / 2) q (omega arith))

here : (t : Bool) (n : ℕ) (r : Bool) → r ≡ false → ((t && nat_eq n n) || r) ≡ t
here true n r e = grind (arith, nat_tests)
here false n r e = e

later : (t : Bool) (n q : ℕ) (r : Bool) → n < q → ((t && nat_eq n q) || r) ≡ r
later true n q r h = grind (arith, nat_tests)
later false n q r h = refl

names_from-at : (k n b j q : ℕ) → j < k → q ≡ n + j → among (names_from k n b) q ≡ has_bit b j
unfolding names_from
names_from-at zero n b j q h e = absurd (omega arith)
names_from-at (suc k) n b zero q h e =
    let same : q ≡ n = omega arith in
    rw same (among-cond (nat_eq (b % 2) 1) n n _
    ∙ here (nat_eq (b % 2) 1) n _ (names_from-below k (n + 1) (b / 2) n (omega arith))
    ∙ ap (λ x. nat_eq x 1) (sym (bit_at_lowest b)))
names_from-at (suc k) n b (suc j) q h e =
    among-cond (nat_eq (b % 2) 1) n q _
    ∙ later (nat_eq (b % 2) 1) n q _ (omega arith)
    ∙ names_from-at k (n + 1) (b / 2) j q (omega arith) (omega arith)
    ∙ ap (λ x. nat_eq x 1) (sym (bit_at-suc b j))

names_from-above : (k n b q : ℕ) → n + k ≤ q → among (names_from k n b) q ≡ false
unfolding names_from
names_from-above zero n b q h = refl
names_from-above (suc k) n b q h =
    among-cond (nat_eq (b % 2) 1) n q _ ∙ later (nat_eq (b % 2) 1) n q _ (omega arith) ∙ names_from-above k (n + 1) (b / 2) q (omega arith)

-- name n is bit n - 1
pub contains-set_of : (bits n : ℕ) → 1 ≤ n → n ≤ 64 → contains (set_of bits) n ≡ has_bit bits (n - 1)
unfolding set_of
contains-set_of bits n low high =
    contains-from_list_nat (names_from 64 1 bits) n ∙ names_from-at 64 1 bits (n - 1) n (omega arith) (omega arith)

-- and no other number is in the set
pub contains-set_of-none : (bits n : ℕ) → n < 1 → contains (set_of bits) n ≡ false
unfolding set_of
contains-set_of-none bits n low = contains-from_list_nat (names_from 64 1 bits) n ∙ names_from-below 64 1 bits n low

pub contains-set_of-past : (bits n : ℕ) → 64 < n → contains (set_of bits) n ≡ false
unfolding set_of
contains-set_of-past bits n high = contains-from_list_nat (names_from 64 1 bits) n ∙ names_from-above 64 1 bits n (omega arith)

digit : (b : ℕ) → cond (has_bit b 0) 1 0 ≡ b % 2
digit b =
    let low : bit_at b 0 ≡ b % 2 = bit_at_lowest b in
    let small : bit_at b 0 < 2 = bit_at-lt b 0 in
    grind (arith, nat_tests)

halves : (b m : ℕ) → m ≡ b / 2 → b % 2 + 2 * m ≡ b
halves b m e = omega arith

-- a set whose members from n on are the bits of b has the mask b
mask_from-bits : (k n b : ℕ) (s : FinSet nat_cmp) → b < 2 ^ k → ((j : ℕ) → j < k → contains s (n + j) ≡ has_bit b j) → mask_from k n s ≡ b
unfolding mask_from
mask_from-bits zero n b s h each = omega arith
mask_from-bits (suc k) n b s h each =
    let first : contains s n ≡ has_bit b 0 = ap (contains s) (omega arith) ∙ each 0 (omega arith) in
    let rest : mask_from k (n + 1) s ≡ b / 2 =
    mask_from-bits k (n + 1) (b / 2) s (omega arith)
    (λ j below. ap (contains s) (omega arith) ∙ each (suc j) (omega arith) ∙ ap (λ x. nat_eq x 1) (bit_at-suc b j)) in
    ap (λ t. cond t 1 0 + 2 * mask_from k (n + 1) s) first
    ∙ ap (λ d. d + 2 * mask_from k (n + 1) s) (digit b)
    ∙ halves b _ rest

pub mask_of-set_of : (bits : ℕ) → bits < 2 ^ 64 → mask_of (set_of bits) ≡ bits
unfolding mask_of
mask_of-set_of bits h =
    mask_from-bits 64 1 bits (set_of bits) h
    (λ j below. contains-set_of bits (1 + j) (omega arith) (omega arith) ∙ ap (has_bit bits) (omega arith))
