-- Lists that ascend by a weak order
use Rattle.std.proofs.Common.{◌≡◌, suc, ◌+◌, Bool, true, false, cond, not, ◌&&◌, List, [], ◌∷◌, ◌++◌, get_or, filter, reverse, refl, sym, ap, subst, ◌∙◌, true≢false, append-nil, arith}
use Rattle.std.proofs.lemmas.List.{reverse-append}
use Rattle.std.proofs.lemmas.List.Elements.{filter-append}
use Rattle.std.specs.Cmp.{IsStrictWeakOrder}
use Rattle.std.specs.List.Sorted.{IsSortedBy, ties}
use Rattle.rambo_sequence.specs.Orders.{with_item, ordered}

-- none of these is less than x
abbrev pub IsLeast : {X : Type 0} → (X → X → Bool) → X → List X → Type 0
IsLeast lt x [] = Unit {0}
IsLeast lt x (y ∷ ys) = (lt y x ≡ false) × IsLeast lt x ys

-- none is less than one before it
abbrev pub Ascends : {X : Type 0} → (X → X → Bool) → List X → Type 0
Ascends lt [] = Unit {0}
Ascends lt (x ∷ xs) = IsLeast lt x xs × Ascends lt xs

second_false : (a b : Bool) → not a && not b ≡ true → b ≡ false
second_false a false h = refl
second_false true true h = absurd (true≢false (sym h))
second_false false true h = absurd (true≢false (sym h))

pushed : {X : Type 0} (t : Bool) (y : X) (xs ys : List X) → cond t (y ∷ xs ++ ys) (xs ++ ys) ≡ cond t (y ∷ xs) xs ++ ys
pushed true y xs ys = refl
pushed false y xs ys = refl

-- what is kept of the tails, where it is the same of the whole
same_tail : {X : Type 0} (p : X → Bool) (x y : X) (xs ys : List X) → x ≡ y → filter p (x ∷ xs) ≡ filter p (y ∷ ys) → filter p xs ≡ filter p ys
same_tail p x y xs ys e h =
    elim (p x) as (λ t. cond t (x ∷ filter p xs) (filter p xs) ≡ cond t (y ∷ filter p ys) (filter p ys) → filter p xs ≡ filter p ys) [
      | true ↦ λ k. cc
      | false ↦ λ k. k
    ] (h ∙ ap (λ v. cond (p v) (y ∷ filter p ys) (filter p ys)) (sym e))

module _ {X : Type 0} (lt : X → X → Bool) (o : IsStrictWeakOrder lt) where
  itself : (x : X) → lt x x ≡ false
  itself x =
      elim (lt x x) as (λ t. lt x x ≡ t → t ≡ false) [
        | true ↦ λ h. sym h ∙ o.one_way x x h
        | false ↦ λ h. refl
      ] refl

  weaker : (x y : X) (zs : List X) → lt y x ≡ false → IsLeast lt y zs → IsLeast lt x zs
  weaker x y [] h k = tt
  weaker x y (z ∷ zs) h k = (o.chain z y x k.0 h, weaker x y zs h k.1)

  pub IsLeast-with : (d x : X) (ys : List X) → lt x d ≡ false → IsLeast lt d ys → IsLeast lt d (with_item lt x ys)
  IsLeast-with d x [] h k = (h, tt)
  IsLeast-with d x (y ∷ ys) h k =
      elim (lt x y) as (λ t. IsLeast lt d (cond t (x ∷ y ∷ ys) (y ∷ with_item lt x ys))) [
        | true ↦ (h, k)
        | false ↦ (k.0, IsLeast-with d x ys h k.1)
      ]

  pub Ascends-with : (x : X) (ys : List X) → Ascends lt ys → Ascends lt (with_item lt x ys)
  Ascends-with x [] k = (tt, tt)
  Ascends-with x (y ∷ ys) k =
      elim (lt x y) as (λ t. lt x y ≡ t → Ascends lt (cond t (x ∷ y ∷ ys) (y ∷ with_item lt x ys))) [
        | true ↦ λ h. let a : lt y x ≡ false = o.one_way x y h in ((a, weaker x y ys a k.0), k)
        | false ↦ λ h. (IsLeast-with y x ys h k.0, Ascends-with x ys k.1)
      ] refl

  pub Ascends-ordered : (xs : List X) → Ascends lt (ordered lt xs)
  Ascends-ordered [] = tt
  Ascends-ordered (x ∷ xs) = Ascends-with x (ordered lt xs) (Ascends-ordered xs)

  -- what a sort says, place by place
  pub Ascends-from_sorted : (xs : List X) → IsSortedBy lt xs → Ascends lt xs
  Ascends-from_sorted [] h = tt
  Ascends-from_sorted (x ∷ []) h = (tt, tt)
  Ascends-from_sorted (x ∷ y ∷ ys) h =
      let first : lt y x ≡ false = h 0 x (omega arith) (omega arith) in
      let rest : Ascends lt (y ∷ ys) = Ascends-from_sorted (y ∷ ys) (λ k d z l.
      let e : suc k + 1 ≡ suc (k + 1) = omega arith in
      subst (λ n. lt (get_or (x ∷ y ∷ ys) n d) (get_or (y ∷ ys) k d) ≡ false) e (h (suc k) d (omega arith) (omega arith))) in
      ((first, weaker x y ys first rest.0), rest)

  above : (x y z : X) → lt x y ≡ true → lt z y ≡ false → lt x z ≡ true
  above x y z h k =
      elim (lt x z) as (λ t. lt x z ≡ t → t ≡ true) [
        | true ↦ λ e. refl
        | false ↦ λ e. sym (o.chain x z y e k) ∙ h
      ] refl

  untied : (w x z : X) → lt x w ≡ false → lt x z ≡ true → ties lt w z ≡ false
  untied w x z h k =
      let less : lt w z ≡ true = elim (lt w z) as (λ t. lt w z ≡ t → t ≡ true) [
        | true ↦ λ e. refl
        | false ↦ λ e. sym (o.chain x w z h e) ∙ k
      ] refl in
      ap (λ t. not t && not (lt z w)) less

  -- none ties with w, where w ties with x and they are above x
  none_tied : (w x y : X) (zs : List X) → lt x w ≡ false → lt x y ≡ true → IsLeast lt y zs → filter (ties lt w) zs ≡ []
  none_tied w x y [] h k l = refl
  none_tied w x y (z ∷ zs) h k l =
      ap (λ t. cond t (z ∷ filter (ties lt w) zs) (filter (ties lt w) zs)) (untied w x z h (above x y z k l.0)) ∙ none_tied w x y zs h k l.1

  put_first : (w x y : X) (ys : List X) → lt x y ≡ true → IsLeast lt y ys
      → filter (ties lt w) (x ∷ y ∷ ys) ≡ filter (ties lt w) (y ∷ ys) ++ filter (ties lt w) (x ∷ [])
  put_first w x y ys h k =
      elim (ties lt w x) as (λ t. ties lt w x ≡ t → cond t (x ∷ filter (ties lt w) (y ∷ ys)) (filter (ties lt w) (y ∷ ys)) ≡ filter (ties lt w) (y ∷ ys) ++ cond t (x ∷ []) []) [
        | true ↦ λ e.
            let none : filter (ties lt w) (y ∷ ys) ≡ [] = none_tied w x y (y ∷ ys) (second_false (lt w x) (lt x w) e) h (itself y, k) in
            ap (λ l. x ∷ l) none ∙ sym (ap (λ l. l ++ x ∷ []) none)
        | false ↦ λ e. sym (append-nil (filter (ties lt w) (y ∷ ys)))
      ] refl

  pub filter-with : (w x : X) (ys : List X) → Ascends lt ys → filter (ties lt w) (with_item lt x ys) ≡ filter (ties lt w) ys ++ filter (ties lt w) (x ∷ [])
  filter-with w x [] k = refl
  filter-with w x (y ∷ ys) k =
      elim (lt x y) as (λ t. lt x y ≡ t → filter (ties lt w) (cond t (x ∷ y ∷ ys) (y ∷ with_item lt x ys)) ≡ filter (ties lt w) (y ∷ ys) ++ filter (ties lt w) (x ∷ [])) [
        | true ↦ λ h. put_first w x y ys h k.0
        | false ↦ λ h.
            ap (λ l. cond (ties lt w y) (y ∷ l) l) (filter-with w x ys k.1)
            ∙ pushed (ties lt w y) y (filter (ties lt w) ys) (filter (ties lt w) (x ∷ []))
      ] refl

  -- ties come the other way round
  pub filter-ordered : (w : X) (xs : List X) → filter (ties lt w) (ordered lt xs) ≡ filter (ties lt w) (reverse xs)
  filter-ordered w [] = refl
  filter-ordered w (x ∷ xs) =
      filter-with w x (ordered lt xs) (Ascends-ordered xs)
      ∙ ap (λ l. l ++ filter (ties lt w) (x ∷ [])) (filter-ordered w xs)
      ∙ sym (filter-append (ties lt w) (reverse xs) (x ∷ []))
      ∙ ap (filter (ties lt w)) (sym (reverse-append (x ∷ []) xs))

  tied_itself : (x : X) → ties lt x x ≡ true
  tied_itself x = ap (λ t. not t && not t) (itself x)

  keeps_first : (x : X) (xs : List X) → filter (ties lt x) (x ∷ xs) ≡ x ∷ filter (ties lt x) xs
  keeps_first x xs = ap (λ t. cond t (x ∷ filter (ties lt x) xs) (filter (ties lt x) xs)) (tied_itself x)

  leading : (p : X → Bool) (x y : X) (ws zs : List X) → IsLeast lt y zs → filter p zs ≡ x ∷ ws → lt x y ≡ false
  leading p x y ws [] k e = absurd (cc)
  leading p x y ws (z ∷ zs) k e =
      elim (p z) as (λ t. cond t (z ∷ filter p zs) (filter p zs) ≡ x ∷ ws → lt x y ≡ false) [
        | true ↦ λ h. let s : z ≡ x = cc in subst (λ v. lt v y ≡ false) s k.0
        | false ↦ λ h. leading p x y ws zs k.1 h
      ] e

  not_before : (x y : X) (xs ys : List X) → IsLeast lt y ys → filter (ties lt x) (x ∷ xs) ≡ filter (ties lt x) (y ∷ ys) → lt x y ≡ false
  not_before x y xs ys k h = leading (ties lt x) x y (filter (ties lt x) xs) (y ∷ ys) (itself y, k) (sym h ∙ keeps_first x xs)

  same_first : (x y : X) (xs ys : List X) → lt x y ≡ false → lt y x ≡ false → filter (ties lt x) (x ∷ xs) ≡ filter (ties lt x) (y ∷ ys) → x ≡ y
  same_first x y xs ys n m h =
      let tied : ties lt x y ≡ true = λ i. not (n i) && not (m i) in
      let e : x ∷ filter (ties lt x) xs ≡ y ∷ filter (ties lt x) ys = sym (keeps_first x xs) ∙ h ∙ ap (λ t. cond t (y ∷ filter (ties lt x) ys) (filter (ties lt x) ys)) tied in
      cc

  -- lists that ascend are the same, where what ties in them is
  pub same_ascents : (xs ys : List X) → Ascends lt xs → Ascends lt ys → ((w : X) → filter (ties lt w) xs ≡ filter (ties lt w) ys) → xs ≡ ys
  same_ascents [] [] a b h = refl
  same_ascents [] (y ∷ ys) a b h = let e : [] ≡ y ∷ filter (ties lt y) ys = h y ∙ keeps_first y ys in absurd (cc)
  same_ascents (x ∷ xs) [] a b h = let e : [] ≡ x ∷ filter (ties lt x) xs = sym (h x) ∙ keeps_first x xs in absurd (cc)
  same_ascents (x ∷ xs) (y ∷ ys) a b h =
      let e : x ≡ y = same_first x y xs ys (not_before x y xs ys b.0 (h x)) (not_before y x ys xs a.0 (sym (h y))) (h x) in
      let tails : xs ≡ ys = same_ascents xs ys a.1 b.1 (λ w. same_tail (ties lt w) x y xs ys e (h w)) in
      λ i. e i ∷ tails i

  -- a stable sort of the items the other way round puts them in order
  pub ordered_from_sort : (xs ys : List X) → IsSortedBy lt ys → ((w : X) → filter (ties lt w) ys ≡ filter (ties lt w) (reverse xs)) → ys ≡ ordered lt xs
  ordered_from_sort xs ys sorted stable =
      same_ascents ys (ordered lt xs) (Ascends-from_sorted ys sorted) (Ascends-ordered xs) (λ w. stable w ∙ sym (filter-ordered w xs))
