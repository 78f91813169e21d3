-- A log without its stale rows
use Rattle.std.proofs.Common.{◌≡◌, ◌≢◌, ℕ, zero, suc, ◌≤◌, ◌<◌, nat_eq, eqb, Bool, true, false, cond, ◌||◌, List, [], ◌∷◌, length, map, get_or, All, Option, Some, None, refl, sym, ap, ◌∙◌, subst, arith, true≢false}
use Rattle.std.specs.Prelude.{slice_get, filter}
use Rattle.std.specs.List.{list_any}
use Rattle.std.proofs.lemmas.Bool.{eqb-true}
use Rattle.std.proofs.lemmas.List.{get_or-map, length-map}
use Rattle.std.proofs.lemmas.List.Elements.{filter_passes}
use Rattle.std.proofs.lemmas.List.Kept.{AllPairs-filter}
use Rattle.std.proofs.lemmas.Map.Keys.{IsDistinct-from_apart}
use Rattle.std.proofs.lemmas.Map.Steps.{length-le_from_distinct_below}
use Rattle.std.proofs.lemmas.Option.{slice_get-get_or}
use Rattle.std.proofs.lemmas.Bool.Decides.{nat_tests}
use Rattle.rambo_tag.specs.declared.slot.Slot.{Slot}
use Rattle.rambo_tag.specs.declared.slot.Row.{Row}
use Rattle.rambo_tag.specs.Rows.{Slots, IsLogOf, has_number, is_current}
use Rattle.rambo_tag.proofs.Slots.{some_inj, none-some}
use Rattle.rambo_tag.proofs.Rows.{within}

into_filter : {A : Type 0} (p : A → Bool) (xs : List A) (j : ℕ) (r : A) → slice_get xs j ≡ Some r → p r ≡ true → (i : ℕ) × (slice_get (filter p xs) i ≡ Some r)
into_filter p [] j r e t = absurd (none-some r e)
into_filter p (x ∷ xs) zero r e t = (0, ap (λ b. slice_get (cond b (x ∷ filter p xs) (filter p xs)) 0) (ap p (some_inj x r e) ∙ t) ∙ e)
into_filter p (x ∷ xs) (suc j) r e t =
    let w = into_filter p xs j r e t in
    elim (p x) as (λ b. (i : ℕ) × (slice_get (cond b (x ∷ filter p xs) (filter p xs)) i ≡ Some r)) [ true ↦ (suc w.0, w.1) | false ↦ w ]

abbrev Comes : {A : Type 0} → List A → A → Type 0
Comes xs r = (j : ℕ) × (slice_get xs j ≡ Some r)

abbrev ComeSo : {A : Type 0} → List A → A → A → Type 0
ComeSo xs a b = (j : ℕ) × (l : ℕ) × (j ≤ l) × (slice_get xs j ≡ Some a) × (slice_get xs l ≡ Some b)

comes_later : {A : Type 0} (x : A) (xs : List A) (r : A) → Comes xs r → Comes (x ∷ xs) r
comes_later x xs r w = (suc w.0, w.1)

come_later : {A : Type 0} (x : A) (xs : List A) (a b : A) → ComeSo xs a b → ComeSo (x ∷ xs) a b
come_later x xs a b w = (suc w.0, suc w.1, up w.0 w.1 w.2, w.3, w.4)
  where
    up : (j l : ℕ) → j ≤ l → suc j ≤ suc l
    up j l h = omega (arith, h)

origin_kept : {A : Type 0} (x : A) (ys xs : List A) (r : A) → ((i : ℕ) → slice_get ys i ≡ Some r → Comes xs r) → (i : ℕ) → slice_get (x ∷ ys) i ≡ Some r → Comes (x ∷ xs) r
origin_kept x ys xs r rest zero e = (0, e)
origin_kept x ys xs r rest (suc i) e = comes_later x xs r (rest i e)

origin : {A : Type 0} (p : A → Bool) (xs : List A) (r : A) (i : ℕ) → slice_get (filter p xs) i ≡ Some r → Comes xs r
origin p [] r i e = absurd (none-some r e)
origin p (x ∷ xs) r i e =
    elim (p x) as (λ b. slice_get (cond b (x ∷ filter p xs) (filter p xs)) i ≡ Some r → Comes (x ∷ xs) r) [
      | true ↦ λ e. origin_kept x (filter p xs) xs r (λ i e. origin p xs r i e) i e
      | false ↦ λ e. comes_later x xs r (origin p xs r i e)
    ] e

origins_kept : {A : Type 0} (x : A) (ys xs : List A) (a b : A) → ((i : ℕ) → slice_get ys i ≡ Some b → Comes xs b)
    → ((i k : ℕ) → i ≤ k → slice_get ys i ≡ Some a → slice_get ys k ≡ Some b → ComeSo xs a b)
    → (i k : ℕ) → i ≤ k → slice_get (x ∷ ys) i ≡ Some a → slice_get (x ∷ ys) k ≡ Some b → ComeSo (x ∷ xs) a b
origins_kept x ys xs a b one two zero zero h e f = (0, 0, h, e, f)
origins_kept x ys xs a b one two zero (suc k) h e f = let w = one k f in (0, suc w.0, least (suc w.0), e, w.1)
  where
    least : (n : ℕ) → 0 ≤ n
    least n = omega (arith)
origins_kept x ys xs a b one two (suc i) zero h e f = absurd (omega (arith, h))
origins_kept x ys xs a b one two (suc i) (suc k) h e f = come_later x xs a b (two i k (omega (arith, h)) e f)

origins : {A : Type 0} (p : A → Bool) (xs : List A) (a b : A) (i k : ℕ) → i ≤ k → slice_get (filter p xs) i ≡ Some a → slice_get (filter p xs) k ≡ Some b → ComeSo xs a b
origins p [] a b i k h e f = absurd (none-some a e)
origins p (x ∷ xs) a b i k h e f =
    elim (p x) as (λ t. slice_get (cond t (x ∷ filter p xs) (filter p xs)) i ≡ Some a → slice_get (cond t (x ∷ filter p xs) (filter p xs)) k ≡ Some b → ComeSo (x ∷ xs) a b) [
      | true ↦ λ e f. origins_kept x (filter p xs) xs a b (origin p xs b) (origins p xs a b) i k h e f
      | false ↦ λ e f. come_later x xs a b (origins p xs a b i k h e f)
    ] e f

pub logged-swept : (t : Slots) (log : List Row) → IsLogOf t log → IsLogOf t (filter (is_current t) log)
logged-swept t log h = record {
  each = λ i r e. let w = origin (is_current t) log r i e in h.each w.0 r w.1;
  all = λ p e f. let w = h.all p e f in into_filter (is_current t) log w.0 (record { place = p; number = e.1.number }) w.1 (ap (has_number e.1.number) f ∙ same e.1.number);
  rising = λ i j a b below e f. let w = origins (is_current t) log a b i j below e f in h.rising w.0 w.1 a b w.2 w.3 w.4;
  once = AllPairs-filter (λ a b. a ≢ b) (is_current t) log h.once;
}
  where
    same : (n : ℕ) → nat_eq n n ≡ true
    same n = grind (arith, nat_tests)

-- numbers of a list that are below another
below_all : (xs : List ℕ) (n : ℕ) → All (λ x. x < n) xs → (q : ℕ) → list_any (eqb q) xs ≡ true → q < n
below_all [] n h q e = absurd (true≢false (sym e))
below_all (x ∷ xs) n h q e = elim (eqb q x) as (λ b. eqb q x ≡ b → (b || list_any (eqb q) xs) ≡ true → q < n) [
  | true ↦ λ same _. subst (λ y. y < n) (sym (eqb-true q x same)) (h 0 x (first (length xs)))
  | false ↦ λ _ rest. below_all xs n (λ k d inside. h (suc k) d (next k (length xs) inside)) q rest
] refl e
  where
    first : (n : ℕ) → 0 < suc n
    first n = omega (arith)

    next : (k n : ℕ) → k < n → suc k < suc n
    next k n h = omega (arith, h)

abbrev place : Row → ℕ
place r = r.place

-- two rows that tell of a key's last change are one
same_row : (a b : Row) (o : Option (List ℕ × Slot)) → has_number a.number o ≡ true → has_number b.number o ≡ true → a.place ≡ b.place → a ≡ b
same_row a b None f g same = absurd (true≢false (sym f))
same_row a b (Some e) f g same =
    let number : a.number ≡ b.number = sym (eqb-true e.1.number a.number f) ∙ eqb-true e.1.number b.number g in
    λ i. record { place = same i; number = number i }

-- so there are at most as many as keys
pub length-swept : (t : Slots) (log : List Row) → IsLogOf t log → length (filter (is_current t) log) ≤ length t
length-swept t log h =
    subst (λ n. n ≤ length t) (length-map rows place) (length-le_from_distinct_below (map place rows) (length t) (IsDistinct-from_apart eqb (map place rows) apart) (below_all (map place rows) (length t) low))
  where
    rows : List Row
    rows = filter (is_current t) log

    none : Row
    none = record { place = 0; number = 0 }

    inside_rows : (j : ℕ) → j < length (map place rows) → j < length rows
    inside_rows j h = subst (λ n. j < n) (length-map rows place) h

    apart : (i j d : ℕ) → i < j → j < length (map place rows) → eqb (get_or (map place rows) i d) (get_or (map place rows) j d) ≡ false
    apart i j d below inside =
        let second = inside_rows j inside in
        let first : i < length rows = omega (arith, below, second) in
        let a = get_or rows i none in
        let b = get_or rows j none in
        let other : a ≢ b = AllPairs-filter (λ a b. a ≢ b) (is_current t) log h.once i j none below second in
        let now_a : is_current t a ≡ true = filter_passes (is_current t) log i none first in
        let now_b : is_current t b ≡ true = filter_passes (is_current t) log j none second in
        (λ k. eqb (get_or-map place rows i none d first k) (get_or-map place rows j none d second k))
        ∙ elim (eqb a.place b.place) as (λ t. eqb a.place b.place ≡ t → t ≡ false) [
          | true ↦ λ e.
              let same = eqb-true a.place b.place e in
              absurd (other (same_row a b (slice_get t a.place) now_a (ap (λ p. has_number b.number (slice_get t p)) same ∙ now_b) same))
          | false ↦ λ _. refl
        ] refl

    low : All (λ x. x < length t) (map place rows)
    low i d inside =
        let there = inside_rows i inside in
        let w = origin (is_current t) log (get_or rows i none) i (slice_get-get_or rows i none there) in
        let held = h.each w.0 (get_or rows i none) w.1 in
        subst (λ x. x < length t) (sym (get_or-map place rows i none d there)) (within t (get_or rows i none).place held.0 held.1)
