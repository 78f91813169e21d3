-- Lists of keys that rise
use Rattle.std.proofs.Common.{◌≡◌, ℕ, Bool, true, false, cond, ◌||◌, List, [], ◌∷◌, bytes_eq, Ordering, Less, Equal, Greater, is_lt, is_gt, refl, sym, ap, subst, ◌∙◌, true≢false}
use Rattle.std.specs.List.{IsDistinct, AllByRecursion, list_any}
use Rattle.std.specs.List.Sorted.{IsSorted}
use Rattle.std.specs.FinMap.{slice_cmp-IsAntisymmetric, nat_cmp-IsAntisymmetric}
use Rattle.std.proofs.lemmas.Cmp.{nat_list_cmp_total, nat_list_eq_equiv}
use Rattle.std.proofs.lemmas.Map.Keys.{IsDistinct-head, IsDistinct-tail}
use Rattle.rambo_tag.specs.Tags.{bytes_lt}
use Rattle.rambo_tag.proofs.Keys.{key_cmp, bytes_eq-itself, bytes_eq-true}
use Rattle.rambo_tag.proofs.CopyOrder.{bytes_lt-cmp}
use Rattle.rambo_history.specs.Calls.{key_of}
use Rattle.rambo_sequence.specs.declared.mark.Mark.{Mark}
use Rattle.rambo_sequence.specs.Sequences.{with_key, keys_of}
use Rattle.rambo_sequence.proofs.WeakOrders.{lt-gt, IsStrictWeakOrder-from_total}
use Rattle.rambo_sequence.proofs.Ascents.{IsLeast, Ascends, Ascends-from_sorted}

abbrev pub Key : Type 0
Key = List ℕ

less : (o : Ordering) → is_lt o ≡ true → o ≡ Less
less Less h = refl
less Equal h = absurd (true≢false (sym h))
less Greater h = absurd (true≢false (sym h))

neither : (o : Ordering) → is_lt o ≡ false → is_gt o ≡ false → o ≡ Equal
neither Less h k = absurd (true≢false h)
neither Equal h k = refl
neither Greater h k = absurd (true≢false k)

pub bytes_eq-flip : (a b : Key) → bytes_eq a b ≡ bytes_eq b a
bytes_eq-flip a b = nat_list_eq_equiv.symm a b

-- the order of keys
lt_itself : (a : Key) → bytes_lt a a ≡ false
lt_itself a =
    elim (bytes_lt a a) as (λ t. bytes_lt a a ≡ t → t ≡ false) [
      | true ↦ λ h.
          let l : is_lt (key_cmp a a) ≡ true = bytes_lt-cmp a a ∙ h in
          let w : is_lt (key_cmp a a) ≡ false = (IsStrictWeakOrder-from_total nat_list_cmp_total).one_way a a l in
          sym l ∙ w
      | false ↦ λ h. refl
    ] refl

lt_trans : (a b c : Key) → bytes_lt a b ≡ true → bytes_lt b c ≡ true → bytes_lt a c ≡ true
lt_trans a b c h k =
    sym (bytes_lt-cmp a c) ∙ ap is_lt (nat_list_cmp_total.trans a b c (less _ (bytes_lt-cmp a b ∙ h)) (less _ (bytes_lt-cmp b c ∙ k)))

not_lt_both : (a b : Key) → bytes_lt a b ≡ false → bytes_lt b a ≡ false → a ≡ b
not_lt_both a b h k =
    slice_cmp-IsAntisymmetric nat_cmp-IsAntisymmetric a b (neither (key_cmp a b) (bytes_lt-cmp a b ∙ h) (sym (lt-gt nat_list_cmp_total b a) ∙ bytes_lt-cmp b a ∙ k))

lt_either : (a b : Key) → bytes_eq a b ≡ false → bytes_lt a b ≡ false → bytes_lt b a ≡ true
lt_either a b apart h =
    elim (bytes_lt b a) as (λ t. bytes_lt b a ≡ t → t ≡ true) [
      | true ↦ λ k. refl
      | false ↦ λ k. sym apart ∙ ap (bytes_eq a) (sym (not_lt_both a b h k)) ∙ bytes_eq-itself a
    ] refl

pub eq_false : (a b : Key) → ¬ (a ≡ b) → bytes_eq a b ≡ false
eq_false a b apart =
    elim (bytes_eq a b) as (λ t. bytes_eq a b ≡ t → t ≡ false) [
      | true ↦ λ h. absurd (apart (bytes_eq-true a b h))
      | false ↦ λ h. refl
    ] refl

pub lt_apart : (a b : Key) → bytes_lt a b ≡ true → ¬ (a ≡ b)
lt_apart a b h e = true≢false (sym h ∙ ap (λ k. bytes_lt k b) e ∙ lt_itself b)

-- all of these come after k
abbrev pub IsBelow : Key → List Key → Type 0
IsBelow k [] = Unit {0}
IsBelow k (j ∷ js) = (bytes_lt k j ≡ true) × IsBelow k js

-- each comes after those before it
abbrev pub Rises : List Key → Type 0
Rises [] = Unit {0}
Rises (k ∷ ks) = IsBelow k ks × Rises ks

further : (i j : Key) (ks : List Key) → bytes_lt i j ≡ true → IsBelow j ks → IsBelow i ks
further i j [] h b = tt
further i j (k ∷ ks) h b = (lt_trans i j k h b.0, further i j ks h b.1)

-- whether a key is among these
abbrev pub has_key : List Key → Key → Bool
has_key ks q = list_any (bytes_eq q) ks

-- a key that is below these isn't among them
missing : (k : Key) (ks : List Key) → IsBelow k ks → has_key ks k ≡ false
missing k [] b = refl
missing k (j ∷ js) b =
    ap (λ t. t || has_key js k) (eq_false k j (lt_apart k j b.0)) ∙ missing k js b.1

-- lists that rise and have the same keys are the same
same_others : (k q : Key) (ks js : List Key) → IsBelow k ks → IsBelow k js → has_key (k ∷ ks) q ≡ has_key (k ∷ js) q → has_key ks q ≡ has_key js q
same_others k q ks js a b h =
    elim (bytes_eq q k) as (λ t. bytes_eq q k ≡ t → t || has_key ks q ≡ t || has_key js q → has_key ks q ≡ has_key js q) [
      | true ↦ λ e s.
          let same : k ≡ q = sym (bytes_eq-true q k e) in
          subst (λ v. has_key ks v ≡ has_key js v) same (missing k ks a ∙ sym (missing k js b))
      | false ↦ λ e s. s
    ] refl h

not_first : (k j : Key) (ks js : List Key) → IsBelow j js → has_key (k ∷ ks) k ≡ has_key (j ∷ js) k → bytes_lt k j ≡ false
not_first k j ks js b h =
    elim (bytes_lt k j) as (λ t. bytes_lt k j ≡ t → t ≡ false) [
      | true ↦ λ l.
          let here : has_key (k ∷ ks) k ≡ true = ap (λ t. t || has_key ks k) (bytes_eq-itself k) in
          sym here ∙ h ∙ missing k (j ∷ js) (l, further k j js l b)
      | false ↦ λ l. refl
    ] refl

pub same_rises : (ks js : List Key) → Rises ks → Rises js → ((q : Key) → has_key ks q ≡ has_key js q) → ks ≡ js
same_rises [] [] a b h = refl
same_rises [] (j ∷ js) a b h = absurd (true≢false (sym (ap (λ t. t || has_key js j) (bytes_eq-itself j)) ∙ sym (h j)))
same_rises (k ∷ ks) [] a b h = absurd (true≢false (sym (ap (λ t. t || has_key ks k) (bytes_eq-itself k)) ∙ h k))
same_rises (k ∷ ks) (j ∷ js) a b h =
    let e : k ≡ j = not_lt_both k j (not_first k j ks js b.0 (h k)) (not_first j k js ks a.0 (sym (h j))) in
    let below : IsBelow k js = subst (λ v. IsBelow v js) (sym e) b.0 in
    let others : ks ≡ js = same_rises ks js a.1 b.1 (λ q. same_others k q ks js a.0 below (h q ∙ ap (λ v. has_key (v ∷ js) q) (sym e))) in
    λ i. e i ∷ others i

-- keys that a sort puts in order, and that differ, rise
IsBelow-from_least : (k : Key) (ks : List Key) → IsLeast (λ x y. is_lt (key_cmp x y)) k ks → AllByRecursion (λ y. bytes_eq k y ≡ false) ks → IsBelow k ks
IsBelow-from_least k [] a d = tt
IsBelow-from_least k (j ∷ js) a d =
    (lt_either j k (eq_false j k (λ e. true≢false (sym (bytes_eq-itself k) ∙ ap (bytes_eq k) (sym e) ∙ d.0))) (sym (bytes_lt-cmp j k) ∙ a.0), IsBelow-from_least k js a.1 d.1)

Rises-from_ascends : (ks : List Key) → Ascends (λ x y. is_lt (key_cmp x y)) ks → IsDistinct bytes_eq ks → Rises ks
Rises-from_ascends [] a d = tt
Rises-from_ascends (k ∷ ks) a d =
    (IsBelow-from_least k ks a.0 (IsDistinct-head bytes_eq k ks d), Rises-from_ascends ks a.1 (IsDistinct-tail bytes_eq k ks d))

pub Rises-from_sorted : (ks : List Key) → IsSorted key_cmp ks → IsDistinct bytes_eq ks → Rises ks
Rises-from_sorted ks sorted distinct =
    Rises-from_ascends ks (Ascends-from_sorted (λ x y. is_lt (key_cmp x y)) (IsStrictWeakOrder-from_total nat_list_cmp_total) ks sorted) distinct

-- the keys of marks rise
IsBelow-with_key : (k key : Key) (ks : List Key) → bytes_lt k key ≡ true → IsBelow k ks → IsBelow k (with_key key ks)
IsBelow-with_key k key [] h b = (h, tt)
IsBelow-with_key k key (j ∷ js) h b =
    elim (bytes_eq key j) as (λ t. IsBelow k (cond t (j ∷ js) (cond (bytes_lt key j) (key ∷ j ∷ js) (j ∷ with_key key js)))) [
      | true ↦ b
      | false ↦ elim (bytes_lt key j) as (λ t. IsBelow k (cond t (key ∷ j ∷ js) (j ∷ with_key key js))) [
        | true ↦ (h, b)
        | false ↦ (b.0, IsBelow-with_key k key js h b.1)
      ]
    ]

Rises-with_key : (key : Key) (ks : List Key) → Rises ks → Rises (with_key key ks)
Rises-with_key key [] r = (tt, tt)
Rises-with_key key (j ∷ js) r =
    elim (bytes_eq key j) as (λ t. bytes_eq key j ≡ t → Rises (cond t (j ∷ js) (cond (bytes_lt key j) (key ∷ j ∷ js) (j ∷ with_key key js)))) [
      | true ↦ λ e. r
      | false ↦ λ e. elim (bytes_lt key j) as (λ t. bytes_lt key j ≡ t → Rises (cond t (key ∷ j ∷ js) (j ∷ with_key key js))) [
        | true ↦ λ l. ((l, further key j js l r.0), r)
        | false ↦ λ l. (IsBelow-with_key j key js (lt_either key j e l) r.0, Rises-with_key key js r.1)
      ] refl
    ] refl

pub Rises-keys_of : (marks : List Mark) → Rises (keys_of marks)
Rises-keys_of [] = tt
Rises-keys_of (m ∷ ms) = Rises-with_key (key_of m.op) (keys_of ms) (Rises-keys_of ms)

-- and each key that is marked is among them
or_twice : (a b : Bool) → a || b ≡ a || (a || b)
or_twice true b = refl
or_twice false b = refl

or_swap : (a b c : Bool) → a || (b || c) ≡ b || (a || c)
or_swap true true c = refl
or_swap true false c = refl
or_swap false b c = refl

has_key-with_key : (q key : Key) (ks : List Key) → has_key (with_key key ks) q ≡ bytes_eq q key || has_key ks q
has_key-with_key q key [] = refl
has_key-with_key q key (j ∷ js) =
    elim (bytes_eq key j) as (λ t. bytes_eq key j ≡ t → has_key (cond t (j ∷ js) (cond (bytes_lt key j) (key ∷ j ∷ js) (j ∷ with_key key js))) q ≡ bytes_eq q key || has_key (j ∷ js) q) [
      | true ↦ λ e.
          or_twice (bytes_eq q j) (has_key js q) ∙ ap (λ v. bytes_eq q v || (bytes_eq q j || has_key js q)) (sym (bytes_eq-true key j e))
      | false ↦ λ e. elim (bytes_lt key j) as (λ t. has_key (cond t (key ∷ j ∷ js) (j ∷ with_key key js)) q ≡ bytes_eq q key || has_key (j ∷ js) q) [
        | true ↦ refl
        | false ↦ ap (λ t. bytes_eq q j || t) (has_key-with_key q key js) ∙ or_swap (bytes_eq q j) (bytes_eq q key) (has_key js q)
      ]
    ] refl

pub has_key-keys_of : (marks : List Mark) (q : Key) → has_key (keys_of marks) q ≡ list_any (λ m. bytes_eq q (key_of m.op)) marks
has_key-keys_of [] q = refl
has_key-keys_of (m ∷ ms) q =
    has_key-with_key q (key_of m.op) (keys_of ms) ∙ ap (λ t. bytes_eq q (key_of m.op) || t) (has_key-keys_of ms q)
