-- Members of lists, and items in their places
use Rattle.std.proofs.Common.{◌≡◌, ◌⊎◌, ℕ, zero, suc, ◌<◌, length, Bool, true, false, if◌then◌else◌, List, [], ◌∷◌, ◌++◌, Option, Some, None, slice_get, slice_set, refl, sym, ap, subst, inl, inr, ⊎_elim, true≢false, arith}
use Rattle.rambo_history.specs.Proper.{Stands}

-- which branch was taken, with the test
pub pick : {A : Type 0} (b : Bool) (x y : A) → ((b ≡ true) × ((if b then x else y) ≡ x)) ⊎ ((b ≡ false) × ((if b then x else y) ≡ y))
pick true x y = inl (refl, refl)
pick false x y = inr (refl, refl)

abbrev some_or : {A : Type 0} → A → Option A → A
some_or a None = a
some_or a (Some b) = b

pub some_inj : {A : Type 0} (a b : A) → Some a ≡ Some b → a ≡ b
some_inj a b e = ap (some_or a) e

abbrev is_there : {A : Type 0} → Option A → Bool
is_there None = false
is_there (Some a) = true

pub none-some : {A : Type 0} (a : A) → None ≡ Some a → ⊥
none-some a e = true≢false (sym (ap is_there e))

abbrev pub Member : {A : Type 0} → A → List A → Type 0
Member a [] = ⊥
Member a (b ∷ bs) = (b ≡ a) ⊎ Member a bs

pub member_middle : {A : Type 0} (a : A) (front back : List A) → Member a (front ++ a ∷ back)
member_middle a [] back = inl refl
member_middle a (x ∷ front) back = inr (member_middle a front back)

pub member_stands : {A : Type 0} (a : A) (xs : List A) → Stands xs a → Member a xs
member_stands a xs s = subst (Member a) (sym s.2) (member_middle a s.0 s.1)

pub stands_member : {A : Type 0} (a : A) (xs : List A) → Member a xs → Stands xs a
stands_member a [] h = absurd h
stands_member a (x ∷ xs) h = elim h [
  | inl e ↦ ([], xs, λ i. e i ∷ xs)
  | inr m ↦ (let r = stands_member a xs m in (x ∷ r.0, r.1, λ i. x ∷ r.2 i))
]

pub member_left : {A : Type 0} (d : A) (xs ys : List A) → Member d xs → Member d (xs ++ ys)
member_left d [] ys h = absurd h
member_left d (x ∷ xs) ys h = elim h [ inl e ↦ inl e | inr m ↦ inr (member_left d xs ys m) ]

pub member_right : {A : Type 0} (d : A) (xs ys : List A) → Member d ys → Member d (xs ++ ys)
member_right d [] ys h = h
member_right d (x ∷ xs) ys h = inr (member_right d xs ys h)

pub member_cases : {A : Type 0} (d : A) (xs ys : List A) → Member d (xs ++ ys) → Member d xs ⊎ Member d ys
member_cases d [] ys h = inr h
member_cases d (x ∷ xs) ys h = elim h [ inl e ↦ inl (inl e) | inr m ↦ ⊎_elim (λ a. inl (inr a)) inr (member_cases d xs ys m) ]

-- a list with one item in another's place
pub set_here : {A : Type 0} (xs : List A) (i : ℕ) (a b : A) → slice_get xs i ≡ Some a → slice_get (slice_set xs i b) i ≡ Some b
set_here [] i a b e = absurd (none-some a e)
set_here (x ∷ xs) zero a b e = refl
set_here (x ∷ xs) (suc i) a b e = set_here xs i a b e

pub set_there : {A : Type 0} (xs : List A) (i j : ℕ) (b : A) → (j ≡ i → ⊥) → slice_get (slice_set xs i b) j ≡ slice_get xs j
set_there [] i j b n = refl
set_there (x ∷ xs) zero zero b n = absurd (n refl)
set_there (x ∷ xs) zero (suc j) b n = refl
set_there (x ∷ xs) (suc i) zero b n = refl
set_there (x ∷ xs) (suc i) (suc j) b n = set_there xs i j b (λ e. n (ap suc e))

-- each place below the length has an item, and no other place has one
pub below_there : {A : Type 0} (xs : List A) (i : ℕ) → i < length xs → (a : A) × (slice_get xs i ≡ Some a)
below_there [] i h = absurd (omega (arith, h))
below_there (x ∷ xs) zero h = (x, refl)
below_there (x ∷ xs) (suc i) h = below_there xs i (omega (arith, h))

pub there_below : {A : Type 0} (xs : List A) (i : ℕ) (a : A) → slice_get xs i ≡ Some a → i < length xs
there_below [] i a e = absurd (none-some a e)
there_below (x ∷ xs) zero a e = omega arith
there_below (x ∷ xs) (suc i) a e = omega (arith, there_below xs i a e)
