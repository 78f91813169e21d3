-- Lists and folds
use Rattle.std.proofs.Common.{◌≡◌, ◌<◌, ◌+◌, ◌-◌, ℕ, zero, suc, Bool, true, false, cond, List, [], ◌∷◌, ◌++◌, Option, None, Some, fold, filter, take, drop, slice_get, refl, sym, ap, ◌∙◌, arith}
use Rattle.std.proofs.lemmas.List.Elements.{filter-append}
use Rattle.std.proofs.lemmas.List.Sums.{fold-append}

-- an item that may be left out
perhaps : {A B : Type 0} (f : B → A → B) (b : B) (t : Bool) (x : A) (ys : List A) → fold f b (cond t (x ∷ ys) ys) ≡ fold f (cond t (f b x) b) ys
perhaps f b true x ys = refl
perhaps f b false x ys = refl

-- the first of some items that are left
pub fold_first : {A B : Type 0} (f : B → A → B) (p : A → Bool) (b : B) (left : ℕ) (rest : List A) (x : A) (xs : List A) → 0 < left → rest ≡ x ∷ xs
    → fold f b (filter p (take left rest)) ≡ fold f (cond (p x) (f b x) b) (filter p (take (left - 1) xs))
fold_first f p b zero rest x xs some is = absurd (omega (arith, some))
fold_first f p b (suc left) rest x xs some is =
    let same : left ≡ suc left - 1 = omega arith in
    ap (λ ys. fold f b (filter p (take (suc left) ys))) is
    ∙ perhaps f b (p x) x (filter p (take left xs))
    ∙ ap (λ n. fold f (cond (p x) (f b x) b) (filter p (take n xs))) same

-- none is left
pub fold_none : {A B : Type 0} (f : B → A → B) (p : A → Bool) (b : B) (left : ℕ) (rest : List A) → rest ≡ [] → fold f b (filter p (take left rest)) ≡ b
fold_none f p b zero rest is = refl
fold_none f p b (suc left) rest is = ap (λ ys. fold f b (filter p (take (suc left) ys))) is

-- those behind and then those before
pub fold_both : {A B : Type 0} (f : B → A → B) (p : A → Bool) (b : B) (xs ys : List A) → fold f b (filter p (xs ++ ys)) ≡ fold f (fold f b (filter p xs)) (filter p ys)
fold_both f p b xs ys = ap (fold f b) (filter-append p xs ys) ∙ fold-append f b (filter p xs) (filter p ys)

-- the item at a place is the first of those that are left from there
pub drop_at : {A : Type 0} (xs : List A) (i : ℕ) (x : A) → slice_get xs i ≡ Some x → drop i xs ≡ x ∷ drop (i + 1) xs
drop_at [] i x is = cc
drop_at (y ∷ ys) zero x is = let same : y ≡ x = cc in ap (λ z. z ∷ ys) same
drop_at (y ∷ ys) (suc i) x is =
    let plus : suc i + 1 ≡ suc (i + 1) = omega arith in
    drop_at ys i x is ∙ sym (ap (λ n. x ∷ drop n (y ∷ ys)) plus)

pub drop_past : {A : Type 0} (xs : List A) (i : ℕ) → slice_get xs i ≡ None → drop i xs ≡ []
drop_past [] zero is = refl
drop_past [] (suc i) is = refl
drop_past (y ∷ ys) zero is = cc
drop_past (y ∷ ys) (suc i) is = drop_past ys i is
