-- Weighted majorities keep the laws of quorums
use Rattle.std.specs.Prelude.{◌≡◌, ℕ, ◌+◌, ◌*◌, ◌<◌, ◌≤◌, Bool, true, false, cond, ◌&&◌, ◌||◌, nat_lt, List, [], ◌∷◌}
use Rattle.std.proofs.Common.{refl, sym, ◌∙◌, arith, true≢false, zero, suc}
use Rattle.std.proofs.lemmas.Bool.Decides.{nat_tests}
use Rattle.std.specs.Cmp.{nat_cmp_total}
use Rattle.std.specs.FinSet.{contains, union, is_subset, contains-union, is_subset-contains}
use Rattle.rambo_names.specs.Names.{NameSet, same_names, rising}
use Rattle.rambo_names.specs.Quorums.{IsSound}
use Rattle.rambo_names.specs.Same.{same_names-path}
use Rattle.rambo_names.specs.Weights.{Weights, weight_of, members_of, weight_among, total, held, outweighs, weighted_majorities}

lt-test : (a b : ℕ) → a < b → nat_lt a b ≡ true
lt-test a b e = grind (arith, nat_tests)

-- of two sets within which more than all weighs, some name that weighs something is in both
shared_step : (a b : Bool) (w m k l : ℕ) → (a && b && nat_lt 0 w) ≡ false → w + m < (cond a w 0 + k) + (cond b w 0 + l) → m < k + l
shared_step true true zero m k l none h = omega arith
shared_step true true (suc w) m k l none h = absurd (true≢false (sym (lt-test 0 (suc w) (omega arith)) ∙ none))
shared_step true false w m k l none h = omega arith
shared_step false true w m k l none h = omega arith
shared_step false false w m k l none h = omega arith

pub one_weighs_in_both : (c : Weights) (p q : ℕ → Bool) (ns : List ℕ) → weight_among c (λ _. true) ns < weight_among c p ns + weight_among c q ns
    → (n : ℕ) × ((p n && q n && nat_lt 0 (weight_of c n)) ≡ true)
one_weighs_in_both c p q [] h = absurd (omega arith)
one_weighs_in_both c p q (x ∷ xs) h =
    let G : Type 0 = (n : ℕ) × ((p n && q n && nat_lt 0 (weight_of c n)) ≡ true) in
    elim (p x && q x && nat_lt 0 (weight_of c x)) as (λ t. (p x && q x && nat_lt 0 (weight_of c x)) ≡ t → G) [
      | true ↦ λ e. (x, e)
      | false ↦ λ e. one_weighs_in_both c p q xs (shared_step (p x) (q x) (weight_of c x) _ _ _ e h)
    ] refl

both : (a b : Bool) → (a && b) ≡ true → (a ≡ true) × (b ≡ true)
both true b e = (refl, e)
both false b e = cc

more_than : (a b : ℕ) → nat_lt a b ≡ true → a < b
more_than a b e = grind (arith, nat_tests)

-- what weighs something is a member
weighs : (o t f e : Bool) → 0 < cond o 1 0 + cond t 2 0 + cond f 4 0 + cond e 8 0 → ((o || t) || (f || e)) ≡ true
weighs true t f e h = refl
weighs false true f e h = refl
weighs false false true e h = refl
weighs false false false true h = refl
weighs false false false false h = absurd (omega arith)

pub in_members : (c : Weights) (n : ℕ) → contains (members_of c) n ≡ ((contains c.ones n || contains c.twos n) || (contains c.fours n || contains c.eights n))
in_members c n =
    contains-union nat_cmp_total (union c.ones c.twos) (union c.fours c.eights) n
    ∙ (λ i. contains-union nat_cmp_total c.ones c.twos n i || contains-union nat_cmp_total c.fours c.eights n i)

member_weighs : (c : Weights) (n : ℕ) → 0 < weight_of c n → contains (members_of c) n ≡ true
member_weighs c n h = in_members c n ∙ weighs (contains c.ones n) (contains c.twos n) (contains c.fours n) (contains c.eights n) h

exceeds : (m a b : ℕ) → m < 2 * a → m < 2 * b → m < a + b
exceeds m a b h k = omega arith

weighted_share : (c : Weights) (a b : NameSet) → outweighs c a ≡ true → outweighs c b ≡ true
    → (n : ℕ) × (contains (members_of c) n ≡ true) × (contains a n ≡ true) × (contains b n ≡ true)
unfolding total held
weighted_share c a b qa qb =
    let found = one_weighs_in_both c (contains a) (contains b) (rising 64 1)
    (exceeds (weight_among c (λ _. true) (rising 64 1)) (weight_among c (contains a) (rising 64 1)) (weight_among c (contains b) (rising 64 1)) (more_than _ _ qa) (more_than _ _ qb)) in
    let w = both (contains a found.0 && contains b found.0) _ found.1 in
    let e = both _ _ w.0 in
    (found.0, member_weighs c found.0 (more_than _ _ w.1), e.0, e.1)

grow_step : (a b : Bool) (w k l : ℕ) → (a ≡ true → b ≡ true) → k ≤ l → cond a w 0 + k ≤ cond b w 0 + l
grow_step true true w k l f h = omega arith
grow_step true false w k l f h = absurd (true≢false (sym (f refl)))
grow_step false true w k l f h = omega arith
grow_step false false w k l f h = omega arith

pub weight_grows : (c : Weights) (p q : ℕ → Bool) → ((n : ℕ) → p n ≡ true → q n ≡ true) → (ns : List ℕ) → weight_among c p ns ≤ weight_among c q ns
weight_grows c p q each [] = omega arith
weight_grows c p q each (x ∷ xs) = grow_step (p x) (q x) (weight_of c x) _ _ (each x) (weight_grows c p q each xs)

still : (m a b : ℕ) → nat_lt m (2 * a) ≡ true → a ≤ b → nat_lt m (2 * b) ≡ true
still m a b h le = lt-test m (2 * b) (let k : m < 2 * a = more_than m (2 * a) h in omega arith)

weighted_grow : (c : Weights) (a b : NameSet) → is_subset a b ≡ true → outweighs c a ≡ true → outweighs c b ≡ true
unfolding total held
weighted_grow c a b sub qa =
    still (weight_among c (λ _. true) (rising 64 1)) (weight_among c (contains a) (rising 64 1)) (weight_among c (contains b) (rising 64 1)) qa
    (weight_grows c (contains a) (contains b) (is_subset-contains nat_cmp_total a b sub) (rising 64 1))

pub weighted_sound : IsSound weighted_majorities
weighted_sound = record { share = weighted_share; grow = weighted_grow }

-- equal weights are identical
abbrev pub same_weights : Weights → Weights → Bool
same_weights a b = same_names a.ones b.ones && (same_names a.twos b.twos && (same_names a.fours b.fours && same_names a.eights b.eights))

pub same_weights-path : (a b : Weights) → same_weights a b ≡ true → a ≡ b
same_weights-path a b e =
    let h = both (same_names a.ones b.ones) (same_names a.twos b.twos && (same_names a.fours b.fours && same_names a.eights b.eights)) e in
    let k = both (same_names a.twos b.twos) (same_names a.fours b.fours && same_names a.eights b.eights) h.1 in
    let l = both (same_names a.fours b.fours) (same_names a.eights b.eights) k.1 in
    λ i. record {
      ones = same_names-path a.ones b.ones h.0 i;
      twos = same_names-path a.twos b.twos k.0 i;
      fours = same_names-path a.fours b.fours l.0 i;
      eights = same_names-path a.eights b.eights l.1 i;
    }
