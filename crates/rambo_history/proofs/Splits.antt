-- Splits of a list
use Rattle.std.proofs.Common.{◌≡◌, List, [], ◌∷◌, ◌++◌, refl, ap, inl, inr, ◌⊎◌}
use Rattle.rambo_history.specs.Proper.{EverySplit, Stands}

pub splits-nil : {X : Type 0} (P : List X → X → List X → Type 0) → EverySplit P []
splits-nil P [] x back e = cc
splits-nil P (f ∷ front) x back e = cc

pub splits-cons : {X : Type 0} (P : List X → X → List X → Type 0) (x : X) (xs : List X)
    → P [] x xs → EverySplit (λ front. P (x ∷ front)) xs → EverySplit P (x ∷ xs)
splits-cons P x xs here rest [] y back e =
    let same : x ≡ y = cc in
    let tail : xs ≡ back = cc in
    rw (← same, ← tail) here
splits-cons P x xs here rest (f ∷ front) y back e =
    let same : x ≡ f = cc in
    let tail : xs ≡ front ++ y ∷ back = cc in
    rw (← same) (rest front y back tail)

pub splits-head : {X : Type 0} (P : List X → X → List X → Type 0) (x : X) (xs : List X) → EverySplit P (x ∷ xs) → P [] x xs
splits-head P x xs all = all [] x xs refl

pub splits-tail : {X : Type 0} (P : List X → X → List X → Type 0) (x : X) (xs : List X)
    → EverySplit P (x ∷ xs) → EverySplit (λ front. P (x ∷ front)) xs
splits-tail P x xs all front y back e = all (x ∷ front) y back (ap (λ l. x ∷ l) e)

pub stands-here : {X : Type 0} (x : X) (xs : List X) → Stands (x ∷ xs) x
stands-here x xs = ([], xs, refl)

pub stands-later : {X : Type 0} (y x : X) (xs : List X) → Stands xs x → Stands (y ∷ xs) x
stands-later y x xs s = (y ∷ s.0, s.1, ap (λ l. y ∷ l) s.2)

pub stands-nil : {X : Type 0} (x : X) → Stands [] x → ⊥
stands-nil x s = splits-nil (λ f y b. ⊥) s.0 x s.1 s.2

pub stands-cases : {X : Type 0} (y x : X) (xs : List X) → Stands (y ∷ xs) x → (y ≡ x) ⊎ Stands xs x
stands-cases {X} y x xs s = by_front s.0 s.1 s.2
  where
    by_front : (front back : List X) → y ∷ xs ≡ front ++ x ∷ back → (y ≡ x) ⊎ Stands xs x
    by_front [] back e = inl cc
    by_front (f ∷ front) back e = inr (front, back, (cc))
