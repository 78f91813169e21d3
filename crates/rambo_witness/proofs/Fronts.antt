-- Fronts of an order, with one call more
use Rattle.std.proofs.Common.{◌≡◌, ℕ, ◌+◌, ◌<◌, List, [], ◌∷◌, ◌++◌, length, get_or, take, drop, refl, sym, ap, ◌∙◌, inl, inr, ◌⊎◌, append_assoc, subst}
use Rattle.std.proofs.lemmas.List.{take-append-drop, take_more}
use Rattle.rambo_history.specs.declared.event.CallId.{CallId}
use Rattle.rambo_history.specs.Proper.{EverySplit, Stands, IsDistinct}
use Rattle.rambo_history.proofs.Splits.{splits-nil, splits-cons, splits-head, splits-tail, stands-here, stands-later, stands-nil, stands-cases}

pub stands-front : {X : Type 0} (xs ys : List X) (y : X) → Stands xs y → Stands (xs ++ ys) y
stands-front xs ys y s = (s.0, s.1 ++ ys, ap (λ l. l ++ ys) s.2 ∙ append_assoc s.0 (y ∷ s.1) ys)

pub stands-last : {X : Type 0} (xs : List X) (x : X) → Stands (xs ++ x ∷ []) x
stands-last xs x = (xs, [], refl)

pub stands-push : {X : Type 0} (xs : List X) (x y : X) → Stands (xs ++ x ∷ []) y → Stands xs y ⊎ (x ≡ y)
stands-push [] x y s =
    elim (stands-cases x y [] s) [ inl same ↦ inr same | inr none ↦ absurd (stands-nil y none) ]
stands-push (z ∷ zs) x y s =
    elim (stands-cases z y (zs ++ x ∷ []) s) [
      | inl same ↦ inl (subst (Stands (z ∷ zs)) same (stands-here z zs))
      | inr rest ↦ elim (stands-push zs x y rest) [ inl before ↦ inl (stands-later z y zs before) | inr last ↦ inr last ]
    ]

-- what looks at an item and at what stands before it
pub splits-push : {X : Type 0} (P : List X → X → Type 0) (xs : List X) (x : X)
    → EverySplit (λ front y back. P front y) xs → P xs x → EverySplit (λ front y back. P front y) (xs ++ x ∷ [])
splits-push P [] x all here = splits-cons (λ front y back. P front y) x [] here (splits-nil (λ front y back. P (x ∷ front) y))
splits-push P (y ∷ ys) x all here =
    splits-cons (λ front z back. P front z) y (ys ++ x ∷ []) (splits-head (λ front z back. P front z) y ys all)
    (splits-push (λ front. P (y ∷ front)) ys x (splits-tail (λ front z back. P front z) y ys all) here)

-- what looks at two items, of which one stands behind the other
pub pairs-push : {X : Type 0} (R : X → X → Type 0) (xs : List X) (x : X)
    → EverySplit (λ front c back. (d : X) → Stands back d → R c d) xs → ((c : X) → Stands xs c → R c x)
    → EverySplit (λ front c back. (d : X) → Stands back d → R c d) (xs ++ x ∷ [])
pairs-push {X} R [] x all new = splits-cons (λ front c back. (d : X) → Stands back d → R c d) x [] (λ d s. absurd (stands-nil d s)) (splits-nil (λ front c back. (d : X) → Stands back d → R c d))
pairs-push {X} R (y ∷ ys) x all new =
    splits-cons (λ front c back. (d : X) → Stands back d → R c d) y (ys ++ x ∷ [])
    (λ d s. elim (stands-push ys x d s) [
      | inl before ↦ splits-head (λ front c back. (d : X) → Stands back d → R c d) y ys all d before
      | inr last ↦ subst (R y) last (new y (stands-here y ys))
    ])
    (pairs-push R ys x (splits-tail (λ front c back. (d : X) → Stands back d → R c d) y ys all) (λ c s. new c (stands-later y c ys s)))

pub distinct-push : (xs : List CallId) (x : CallId) → IsDistinct xs → ¬ (Stands xs x) → IsDistinct (xs ++ x ∷ [])
distinct-push [] x all new = splits-cons (λ front c back. ¬ (Stands back c)) x [] (stands-nil x) (splits-nil (λ front c back. ¬ (Stands back c)))
distinct-push (y ∷ ys) x all new =
    splits-cons (λ front c back. ¬ (Stands back c)) y (ys ++ x ∷ [])
    (λ s. elim (stands-push ys x y s) [
      | inl before ↦ splits-head (λ front c back. ¬ (Stands back c)) y ys all before
      | inr last ↦ new (subst (Stands (y ∷ ys)) (sym last) (stands-here y ys))
    ])
    (distinct-push ys x (splits-tail (λ front c back. ¬ (Stands back c)) y ys all) (λ s. new (stands-later y x ys s)))

-- a list is what stands before an item, the item, and what stands behind it
pub split-at : {X : Type 0} (xs : List X) (i : ℕ) (x : X) → take (i + 1) xs ≡ take i xs ++ x ∷ [] → xs ≡ take i xs ++ x ∷ drop (i + 1) xs
split-at xs i x more = sym (take-append-drop (i + 1) xs) ∙ ap (λ l. l ++ drop (i + 1) xs) more ∙ append_assoc (take i xs) (x ∷ []) (drop (i + 1) xs)

pub take-item : {X : Type 0} (xs : List X) (i : ℕ) (x : X) → i < length xs → x ≡ get_or xs i x → take (i + 1) xs ≡ take i xs ++ x ∷ []
take-item xs i x below is = take_more xs i x below ∙ ap (λ y. take i xs ++ y ∷ []) (sym is)
