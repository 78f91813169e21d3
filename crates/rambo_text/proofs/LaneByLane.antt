-- Vectors that are computed lane by lane
use Rattle.std.proofs.Common.{◌≡◌, ℕ, zero, suc, ◌-◌, ◌<◌, ◌+◌, ◌*◌, Bool, true, false, cond, ◌&&◌, T, eqb, List, [], ◌∷◌, map, length, replicate, refl, ap, ◌∙◌, eqb→eq, eq-zero-or-pos, inl, inr, arith}
use lib.Ieee.Fits.{and_l, and_r}
use Rattle.std.proofs.lemmas.Simd.{zip2_of_maps, splat_is_map, map-map}
use lib.Lanes.{Each1, sel_l, zip2, mask_l}

pub itself : (v : List ℕ) → v ≡ map (λ x. x) v
itself [] = refl
itself (x ∷ xs) = ap (λ r. x ∷ r) (itself xs)

pub splat : (v : List ℕ) (n y : ℕ) → length v ≡ n → replicate n y ≡ map (λ _. y) v
splat v n y long = splat_is_map v n y long

pub joined : (h : ℕ → ℕ → ℕ) (f g : ℕ → ℕ) (v : List ℕ) {xs ys : List ℕ} → xs ≡ map f v → ys ≡ map g v → zip2 h xs ys ≡ map (λ x. h (f x) (g x)) v
joined h f g v p q = zip2_of_maps h f g v p q

pub tested : (m : ℕ → Bool) (f : ℕ → ℕ) (v : List ℕ) {xs : List ℕ} → xs ≡ map f v → map m xs ≡ map (λ x. m (f x)) v
tested m f v p = ap (map m) p ∙ map-map m f v

chosen_map : (m : ℕ → Bool) (f g : ℕ → ℕ) (v : List ℕ) → sel_l (map m v) (map f v) (map g v) ≡ map (λ x. cond (m x) (f x) (g x)) v
chosen_map m f g [] = refl
chosen_map m f g (x ∷ xs) = ap (λ r. cond (m x) (f x) (g x) ∷ r) (chosen_map m f g xs)

-- a choice between two vectors
pub chosen : (m : ℕ → Bool) (f g : ℕ → ℕ) (v : List ℕ) {ms : List Bool} {xs ys : List ℕ} → ms ≡ map m v → xs ≡ map f v → ys ≡ map g v
    → sel_l ms xs ys ≡ map (λ x. cond (m x) (f x) (g x)) v
chosen m f g v p q r = (λ i. sel_l (p i) (q i) (r i)) ∙ chosen_map m f g v

-- two functions are the same below a number
abbrev pub are_same : (ℕ → ℕ) → (ℕ → ℕ) → ℕ → Bool
are_same f g zero = true
are_same f g (suc n) = eqb (f n) (g n) && are_same f g n

pub same_at : (f g : ℕ → ℕ) (n x : ℕ) → T (are_same f g n) → x < n → f x ≡ g x
same_at f g zero x t h = absurd (omega arith)
same_at f g (suc n) x t h =
    elim (eq-zero-or-pos (n - x)) [
      | inl z ↦ (let e : x ≡ n = omega arith in rw e (eqb→eq _ _ (and_l _ (are_same f g n) t)))
      | inr g' ↦ same_at f g n x (and_r _ (are_same f g n) t) (omega arith)
    ]

pub same_lanes : (f g : ℕ → ℕ) (n : ℕ) (v : List ℕ) → T (are_same f g n) → Each1 (λ x. x < n) v → map f v ≡ map g v
same_lanes f g n [] t h = refl
same_lanes f g n (x ∷ xs) t h = (λ i. same_at f g n x t h.0 i ∷ same_lanes f g n xs t h.1 i)

pub each_map : (P : ℕ → Type 0) (f : ℕ → ℕ) (v : List ℕ) → Each1 (λ x. P (f x)) v → Each1 P (map f v)
each_map P f [] h = tt
each_map P f (x ∷ xs) h = (h.0, each_map P f xs h.1)

-- the number of which so many bits are set
abbrev pub ones : ℕ → ℕ
ones zero = 0
ones (suc n) = 1 + 2 * ones n

-- all bits are set where all lanes pass
pub all_set : (p : ℕ → Bool) (xs : List ℕ) → Each1 (λ x. p x ≡ true) xs → mask_l (map p xs) ≡ ones (length xs)
all_set p [] h = refl
all_set p (x ∷ xs) h = (λ i. cond (h.0 i) 1 zero + 2 * all_set p xs h.1 i)

one_bit : (b : Bool) (m n : ℕ) → cond b 1 zero + 2 * m ≡ 1 + 2 * n → (b ≡ true) × (m ≡ n)
one_bit true m n e = (refl, omega (arith, e))
one_bit false m n e = absurd (omega (arith, e))

-- and nowhere else
pub set_alone : (p : ℕ → Bool) (xs : List ℕ) → mask_l (map p xs) ≡ ones (length xs) → Each1 (λ x. p x ≡ true) xs
set_alone p [] e = tt
set_alone p (x ∷ xs) e =
    let one = one_bit (p x) (mask_l (map p xs)) (ones (length xs)) e in
    (one.0, set_alone p xs one.1)
