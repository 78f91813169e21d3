-- Sets among the events of a front, and one event more
use Rattle.std.proofs.Common.{◌≡◌, ℕ, ◌+◌, ◌<◌, Bool, true, false, not, ◌||◌, List, [], ◌∷◌, ◌++◌, length, get_or, take, drop, refl, sym, ap, ◌∙◌, append_assoc}
use Rattle.std.specs.List.{list_any}
use Rattle.std.proofs.lemmas.List.{take-append-drop, take_more}
use Rattle.rambo_history.specs.Proper.{EverySplit}
use Rattle.rambo_history.proofs.Splits.{splits-nil, splits-cons, splits-head, splits-tail}

pub splits-push : {X : Type 0} (P : List X → X → Type 0) (xs : List X) (x : X)
    → EverySplit (λ front y back. P front y) xs → P xs x → EverySplit (λ front y back. P front y) (xs ++ x ∷ [])
splits-push P [] x all here = splits-cons (λ front y back. P front y) x [] here (splits-nil (λ front y back. P (x ∷ front) y))
splits-push P (y ∷ ys) x all here =
    splits-cons (λ front z back. P front z) y (ys ++ x ∷ []) (splits-head (λ front z back. P front z) y ys all)
    (splits-push (λ front. P (y ∷ front)) ys x (splits-tail (λ front z back. P front z) y ys all) here)

or_swap : (a b c : Bool) → (a || (b || c)) ≡ (b || (a || c))
or_swap true true c = refl
or_swap true false c = refl
or_swap false true c = refl
or_swap false false c = refl

pub any-push : {X : Type 0} (p : X → Bool) (xs : List X) (x : X) → list_any p (xs ++ x ∷ []) ≡ (p x || list_any p xs)
any-push p [] x = refl
any-push p (y ∷ ys) x = ap (λ b. p y || b) (any-push p ys x) ∙ or_swap (p y) (p x) (list_any p ys)

pub not-not : (b : Bool) → not (not b) ≡ b
not-not true = refl
not-not false = refl

-- a list is what stands before an item, the item, and what stands behind it
pub split-at : {X : Type 0} (xs : List X) (i : ℕ) (x : X) → take (i + 1) xs ≡ take i xs ++ x ∷ [] → xs ≡ take i xs ++ x ∷ drop (i + 1) xs
split-at xs i x more = sym (take-append-drop (i + 1) xs) ∙ ap (λ l. l ++ drop (i + 1) xs) more ∙ append_assoc (take i xs) (x ∷ []) (drop (i + 1) xs)

pub take-item : {X : Type 0} (xs : List X) (i : ℕ) (x : X) → i < length xs → x ≡ get_or xs i x → take (i + 1) xs ≡ take i xs ++ x ∷ []
take-item xs i x below is = take_more xs i x below ∙ ap (λ y. take i xs ++ y ∷ []) (sym is)
