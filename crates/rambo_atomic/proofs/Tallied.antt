-- Counts of the answered calls of each key
use Rattle.std.proofs.Common.{◌≡◌, ℕ, suc, ◌+◌, ◌^◌, ◌<◌, ◌≤◌, length, List, [], ◌∷◌, Bool, true, false, cond, not, ◌&&◌, ◌||◌, Some, refl, ap, ◌∙◌, arith}
use Rattle.std.proofs.lemmas.Slice.Eq.{bytes_eq-Decides}
use Rattle.std.specs.Borrow.{Bor}
use Rattle.std.specs.List.{list_all}
use Rattle.std.specs.Map.{lookup}
use Rattle.std.specs.Option.{unwrap_or}
use Rattle.std.specs.Str.{bytes_eq}
use Rattle.rambo_history.specs.declared.operation.Op.{Op}
use Rattle.rambo_history.specs.declared.event.CallId.{CallId}
use Rattle.rambo_history.specs.declared.event.Event.{Event}
use Rattle.rambo_atomic.specs.Tallies.{count_at, count_with, how_many, is_found}
use Rattle.rambo_atomic.specs.Tests.{is_due, has_entry, is_complete}

-- some more at a key
pub count_at-more : (old new : List (Bor (List ℕ) × ℕ)) (key q : List ℕ) (n more : ℕ) → n ≡ count_at old key
    → lookup (λ k. bytes_eq q k.now) new ≡ cond (bytes_eq key q) (Some (n + more)) (lookup (λ k. bytes_eq q k.now) old)
    → count_at new q ≡ count_with old key more q
count_at-more old new key q n more is found =
    ap (λ o. unwrap_or o 0) found
    ∙ elim (bytes_eq key q) as (λ t. bytes_eq key q ≡ t → unwrap_or (cond t (Some (n + more)) (lookup (λ k. bytes_eq q k.now) old)) 0 ≡ count_at old q + cond t more 0) [
      | true ↦ λ e. ap (λ m. m + more) (is ∙ ap (count_at old) ((bytes_eq-Decides key q).0 e))
      | false ↦ λ e. omega arith
    ] refl

-- and none
pub count_with-none : (entries : List (Bor (List ℕ) × ℕ)) (key q : List ℕ) → count_at entries q ≡ count_with entries key 0 q
count_with-none entries key q = none (bytes_eq key q)
  where
    none : (t : Bool) → count_at entries q ≡ count_at entries q + cond t 0 0
    none true = omega arith
    none false = omega arith

pub count_with-own : (entries : List (Bor (List ℕ) × ℕ)) (key : List ℕ) (n : ℕ) → count_with entries key n key ≡ count_at entries key + n
count_with-own entries key n = ap (λ t. count_at entries key + cond t n 0) ((bytes_eq-Decides key key).1 refl)

-- one more in the run, or where the run that was counted is another key's
pub count_with-next : (entries : List (Bor (List ℕ) × ℕ)) (key q : List ℕ) (n : ℕ) → count_with entries key (n + 1) q ≡ count_with entries key n q + cond (bytes_eq key q) 1 0
count_with-next entries key q n = next (bytes_eq key q)
  where
    next : (t : Bool) → count_at entries q + cond t (n + 1) 0 ≡ (count_at entries q + cond t n 0) + cond t 1 0
    next true = omega arith
    next false = omega arith

pub how_many-length : {X : Type 0} (p : X → Bool) (xs : List X) → how_many p xs ≤ length xs
how_many-length p [] = omega arith
how_many-length p (x ∷ xs) = step (p x) (how_many p xs) (length xs) (how_many-length p xs)
  where
    step : (t : Bool) (m n : ℕ) → m ≤ n → cond t 1 0 + m ≤ suc n
    step true m n h = omega arith
    step false m n h = omega arith

-- a count of the items that passed before one that passes can rise
pub count-fits : {X : Type 0} (p : X → Bool) (n : ℕ) (h : List X) (x : X) (others : List X) → p x ≡ true
    → n + how_many p (x ∷ others) ≡ how_many p h → length h < 2 ^ 63 → n + 1 < 2 ^ 64
count-fits p n h x others passes e fits =
    let few : how_many p h ≤ length h = how_many-length p h in
    let one : how_many p (x ∷ others) ≡ 1 + how_many p others = ap (λ t. cond t 1 0 + how_many p others) passes in
    omega arith

-- all that pass one test pass the other where as many pass both as pass the one
pub both-le : {X : Type 0} (p q : X → Bool) (xs : List X) → how_many (λ x. p x && q x) xs ≤ how_many p xs
both-le p q [] = omega arith
both-le p q (x ∷ xs) = step (p x) (q x) _ _ (both-le p q xs)
  where
    step : (s t : Bool) (m n : ℕ) → m ≤ n → cond (s && t) 1 0 + m ≤ cond s 1 0 + n
    step true true m n h = omega arith
    step true false m n h = omega arith
    step false t m n h = omega arith

pub all-from-count : {X : Type 0} (p q : X → Bool) (xs : List X) → how_many p xs ≤ how_many (λ x. p x && q x) xs
    → list_all (λ x. not (p x) || q x) xs ≡ true
all-from-count p q [] h = refl
all-from-count p q (x ∷ xs) h = step (p x) (q x) (all-from-count p q xs) (both-le p q xs) h
  where
    step : (s t : Bool) → (how_many p xs ≤ how_many (λ y. p y && q y) xs → list_all (λ y. not (p y) || q y) xs ≡ true)
        → how_many (λ y. p y && q y) xs ≤ how_many p xs
        → cond s 1 0 + how_many p xs ≤ cond (s && t) 1 0 + how_many (λ y. p y && q y) xs
        → ((not s || t) && list_all (λ y. not (p y) || q y) xs) ≡ true
    step true true rest few e = rest (omega arith)
    step true false rest few e = absurd (omega arith)
    step false t rest few e = rest (omega arith)

pub count-from-all : {X : Type 0} (p q : X → Bool) (xs : List X) → list_all (λ x. not (p x) || q x) xs ≡ true
    → how_many p xs ≤ how_many (λ x. p x && q x) xs
count-from-all p q [] e = omega arith
count-from-all p q (x ∷ xs) e = step (p x) (q x) (count-from-all p q xs) e
  where
    step : (s t : Bool) → (list_all (λ y. not (p y) || q y) xs ≡ true → how_many p xs ≤ how_many (λ y. p y && q y) xs)
        → ((not s || t) && list_all (λ y. not (p y) || q y) xs) ≡ true
        → cond s 1 0 + how_many p xs ≤ cond (s && t) 1 0 + how_many (λ y. p y && q y) xs
    step true true rest e = let more = rest e in omega arith
    step true false rest e = cc
    step false t rest e = let more = rest e in omega arith

module _ (h : List Event) (among : Op → Bool) (order : List CallId) (found due : ℕ)
    (of_order : found ≡ how_many (is_found h among order) h) (all : due ≡ how_many (is_due h among) h) where
  -- no call is missing where the order has as many answered calls of those within as the history
  pub complete-by-count : due ≤ found → is_complete h among order h ≡ true
  complete-by-count enough = all-from-count (is_due h among) (has_entry order) h (omega (arith, of_order, all, enough))

  pub missing-by-count : found < due → ¬ (is_complete h among order h ≡ true)
  missing-by-count fewer whole =
      let most = count-from-all (is_due h among) (has_entry order) h whole in omega (arith, of_order, all, most, fewer)
