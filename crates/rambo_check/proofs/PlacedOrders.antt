-- Orders, and the lines that tell them
use Rattle.std.proofs.Common.{◌≡◌, ℕ, zero, suc, ◌+◌, Bool, true, false, cond, List, [], ◌∷◌, ◌++◌, map, take, drop, slice_get, add-one, Option, Some, None, option_map, refl, sym, ap, ◌∙◌, subst}
use Rattle.indexmap.specs.IndexMap.{set_value_at}
use Rattle.std.specs.Map.{lookup}

-- what a list of keys has at a key, if something is made of each of its values
pub lookup-map : {A B : Type 0} (p : List ℕ → Bool) (f : A → B) (xs : List (List ℕ × A)) → lookup p (map (λ e. (e.0, f e.1)) xs) ≡ option_map f (lookup p xs)
lookup-map p f [] = refl
lookup-map {A} {B} p f (x ∷ xs) = by (p x.0) (lookup-map p f xs)
  where
    by : (t : Bool) → lookup p (map (λ e. (e.0, f e.1)) xs) ≡ option_map f (lookup p xs)
        → cond t (Some (f x.1)) (lookup p (map (λ e. (e.0, f e.1)) xs)) ≡ option_map f (cond t (Some x.1) (lookup p xs))
    by true e = refl
    by false e = e

pub keys-map : {A B : Type 0} (f : A → B) (xs : List (List ℕ × A)) → map (λ (o : List ℕ × B). o.0) (map (λ e. (e.0, f e.1)) xs) ≡ map (λ o. o.0) xs
keys-map f [] = refl
keys-map f (x ∷ xs) = ap (λ l. x.0 ∷ l) (keys-map f xs)

pub map-push : {A B : Type 0} (f : A → B) (xs : List A) (x : A) → map f (xs ++ x ∷ []) ≡ map f xs ++ f x ∷ []
map-push f [] x = refl
map-push f (y ∷ ys) x = ap (λ l. f y ∷ l) (map-push f ys x)

pub none-mapped : {A B : Type 0} (f : A → B) (o : Option A) → o ≡ None → option_map f o ≡ None
none-mapped f o e = ap (option_map f) e

pub map-twice : {A B C : Type 0} (g : B → C) (f : A → B) (xs : List A) → map g (map f xs) ≡ map (λ x. g (f x)) xs
map-twice g f [] = refl
map-twice g f (x ∷ xs) = ap (λ l. g (f x) ∷ l) (map-twice g f xs)

-- the value at a place is changed, where those before it were
pub changed-on : {V : Type 0} (f : List ℕ × V → V) (all now : List (List ℕ × V)) (i : ℕ) (k : List ℕ) (v : V)
    → now ≡ map (λ e. (e.0, f e)) (take i all) ++ drop i all → slice_get now i ≡ Some (k, v)
    → set_value_at now i (f (k, v)) ≡ map (λ e. (e.0, f e)) (take (i + 1) all) ++ drop (i + 1) all
changed-on {V} f all now i k v is at =
    subst (λ n. set_value_at now i (f (k, v)) ≡ map (λ e. (e.0, f e)) (take n all) ++ drop n all) (sym (add-one i))
    (ap (λ es. set_value_at es i (f (k, v))) is ∙ by all i (ap (λ es. slice_get es i) (sym is) ∙ at))
  where
    by : (all : List (List ℕ × V)) (i : ℕ) → slice_get (map (λ e. (e.0, f e)) (take i all) ++ drop i all) i ≡ Some (k, v)
        → set_value_at (map (λ e. (e.0, f e)) (take i all) ++ drop i all) i (f (k, v)) ≡ map (λ e. (e.0, f e)) (take (suc i) all) ++ drop (suc i) all
    by [] zero at = cc
    by [] (suc i) at = cc
    by (e ∷ es) zero at = let same : e ≡ (k, v) = cc in ap (λ w. (e.0, f w) ∷ es) (sym same)
    by (e ∷ es) (suc i) at = ap (λ l. (e.0, f e) ∷ l) (by es i at)
