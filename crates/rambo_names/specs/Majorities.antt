-- Majorities keep the laws of quorums
use Rattle.std.specs.Prelude.{◌≡◌, ℕ, ◌+◌, ◌*◌, ◌<◌, ◌≤◌, Bool, true, false, cond, ◌&&◌, nat_lt, List, [], ◌∷◌}
use Rattle.std.proofs.Common.{refl, sym, ◌∙◌, arith, true≢false}
use Rattle.std.proofs.lemmas.Bool.Decides.{nat_tests}
use Rattle.std.specs.Cmp.{nat_cmp_total}
use Rattle.std.specs.FinSet.{contains, is_subset, intersection, contains-intersection, is_subset-contains}
use Rattle.rambo_names.specs.Names.{NameSet, rising, how_many, count_of}
use Rattle.rambo_names.specs.Quorums.{IsSound, is_majority, majorities}

add_step : (a b : Bool) → (a ≡ true → b ≡ true) → (m n : ℕ) → m ≤ n → cond a 1 0 + m ≤ cond b 1 0 + n
add_step true true f m n h = omega arith
add_step true false f m n h = absurd (true≢false (sym (f refl)))
add_step false true f m n h = omega arith
add_step false false f m n h = omega arith

-- a count is no greater where each that passes the first test passes the second
pub count_grows : (p q : ℕ → Bool) → ((n : ℕ) → p n ≡ true → q n ≡ true) → (xs : List ℕ) → how_many p xs ≤ how_many q xs
count_grows p q each [] = omega arith
count_grows p q each (x ∷ xs) = add_step (p x) (q x) (each x) _ _ (count_grows p q each xs)

-- one of two tests fails here, so the counts of the rest still exceed the third
one_fails : (c a b : Bool) → (a ≡ true → c ≡ true) → (b ≡ true → c ≡ true) → ((a && b) ≡ false) → (m k l : ℕ)
    → cond c 1 0 + m < (cond a 1 0 + k) + (cond b 1 0 + l) → m < k + l
one_fails c true true f g none m k l h = absurd (true≢false none)
one_fails true true false f g none m k l h = omega arith
one_fails false true false f g none m k l h = absurd (true≢false (sym (f refl)))
one_fails true false true f g none m k l h = omega arith
one_fails false false true f g none m k l h = absurd (true≢false (sym (g refl)))
one_fails true false false f g none m k l h = omega arith
one_fails false false false f g none m k l h = omega arith

-- of two tests within a third that together pass more often than it, some number passes both
pub one_passes_both : (r p q : ℕ → Bool) → ((n : ℕ) → p n ≡ true → r n ≡ true) → ((n : ℕ) → q n ≡ true → r n ≡ true) → (xs : List ℕ)
    → how_many r xs < how_many p xs + how_many q xs → (n : ℕ) × ((p n && q n) ≡ true)
one_passes_both r p q pr qr [] h = absurd (omega arith)
one_passes_both r p q pr qr (x ∷ xs) h =
    let G : Type 0 = (n : ℕ) × ((p n && q n) ≡ true) in
    elim (p x && q x) as (λ t. (p x && q x) ≡ t → G) [
      | true ↦ λ e. (x, e)
      | false ↦ λ e. one_passes_both r p q pr qr xs (one_fails (r x) (p x) (q x) (pr x) (qr x) e _ _ _ h)
    ] refl

both : (a b : Bool) → (a && b) ≡ true → (a ≡ true) × (b ≡ true)
both true b e = (refl, e)
both false b e = cc

in_both : (m w : NameSet) (n : ℕ) → contains (intersection m w) n ≡ true → (contains m n ≡ true) × (contains w n ≡ true)
in_both m w n e = both _ _ (sym (contains-intersection nat_cmp_total m w n) ∙ e)

more_than : (a b : ℕ) → nat_lt a b ≡ true → a < b
more_than a b e = grind (arith, nat_tests)

lt-test : (a b : ℕ) → a < b → nat_lt a b ≡ true
lt-test a b e = grind (arith, nat_tests)

exceeds : (m a b : ℕ) → m < 2 * a → m < 2 * b → m < a + b
exceeds m a b h k = omega arith

still : (m a b : ℕ) → nat_lt m (2 * a) ≡ true → a ≤ b → nat_lt m (2 * b) ≡ true
still m a b h le = lt-test m (2 * b) (let k : m < 2 * a = more_than m (2 * a) h in omega arith)

into_both : (m w : NameSet) (n : ℕ) → contains m n ≡ true → contains w n ≡ true → contains (intersection m w) n ≡ true
into_both m w n e f = contains-intersection nat_cmp_total m w n ∙ (λ i. e i && f i)

majorities_share : (m a b : NameSet) → is_majority m a ≡ true → is_majority m b ≡ true
    → (n : ℕ) × (contains m n ≡ true) × (contains a n ≡ true) × (contains b n ≡ true)
unfolding count_of
majorities_share m a b ma mb =
    let la = more_than _ _ ma in
    let lb = more_than _ _ mb in
    let found = one_passes_both (contains m) (contains (intersection m a)) (contains (intersection m b))
    (λ n e. (in_both m a n e).0) (λ n e. (in_both m b n e).0) (rising 64 1)
    (exceeds (count_of m) (count_of (intersection m a)) (count_of (intersection m b)) la lb) in
    let e = both _ _ found.1 in
    (found.0, (in_both m a found.0 e.0).0, (in_both m a found.0 e.0).1, (in_both m b found.0 e.1).1)

majorities_grow : (m a b : NameSet) → is_subset a b ≡ true → is_majority m a ≡ true → is_majority m b ≡ true
unfolding count_of
majorities_grow m a b sub ma =
    still (count_of m) (count_of (intersection m a)) (count_of (intersection m b)) ma
    (count_grows (contains (intersection m a)) (contains (intersection m b))
    (λ n e. into_both m b n (in_both m a n e).0 (is_subset-contains nat_cmp_total a b sub n (in_both m a n e).1)) (rising 64 1))

pub majorities_sound : IsSound majorities
majorities_sound = record { share = majorities_share; grow = majorities_grow }
