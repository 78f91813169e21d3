-- The texts of configurations, member by member
use Rattle.std.proofs.Common.{◌≡◌, ℕ, zero, suc, ◌+◌, ◌-◌, ◌^◌, ◌<◌, ◌≤◌, Bool, true, false, cond, nat_eq, ◌||◌, List, [], ◌∷◌, ◌++◌, length, map, filter, decimal, refl, sym, ap, ◌∙◌, arith, append_assoc, append-nil}
use Rattle.std.specs.Prelude.{if◌then◌else◌, nat_lt}
use Rattle.std.proofs.lemmas.Bool.Decides.{nat_tests}
use Rattle.std.proofs.lemmas.Fmt.{digits_decimal, decimal_injective, decimal_nonempty}
use Rattle.std.proofs.lemmas.List.{append_cancel_left}
use Rattle.std.specs.Char.{is_ascii_digit}
use Rattle.std.specs.FinSet.{contains, empty, contains-empty}
use Rattle.std.specs.Ordering.{nat_cmp}
use Rattle.rambo_names.specs.Names.{NameSet, rising, names, how_many, count_of}
use Rattle.rambo_names.specs.Signs.{behind_commas, joined, set_text, weight_text, member_text, conf_text, before, IsEnd, IsNumberEnd}
use Rattle.rambo_names.specs.Weights.{Weights, weight_of, members_of, evenly}
use Rattle.rambo_names.specs.WeightLaws.{in_members}
use Rattle.rambo_names.proofs.Leading.{same_end}
use Rattle.rambo_names.proofs.Numerals.{digits}

-- the texts of the members among k names from a on, by the weight of each name
unfoldable pub parts : (ℕ → ℕ) → ℕ → ℕ → List (List ℕ)
parts f zero a = []
parts f (suc k) a = cond (nat_lt 0 (f a)) (member_text a (f a) ∷ parts f k (a + 1)) (parts f k (a + 1))

-- what is still to come of a text, and what has come
abbrev pub rest_text : Bool → List (List ℕ) → List ℕ
rest_text true ws = joined ws
rest_text false ws = behind_commas ws

abbrev pub front_text : Bool → List (List ℕ) → List ℕ
front_text true ws = []
front_text false ws = joined ws

weighs : (o t f e : Bool) → ((o || t) || (f || e)) ≡ nat_lt 0 (cond o 1 0 + cond t 2 0 + cond f 4 0 + cond e 8 0)
weighs true true true true = refl
weighs true true true false = refl
weighs true true false true = refl
weighs true true false false = refl
weighs true false true true = refl
weighs true false true false = refl
weighs true false false true = refl
weighs true false false false = refl
weighs false true true true = refl
weighs false true true false = refl
weighs false true false true = refl
weighs false true false false = refl
weighs false false true true = refl
weighs false false true false = refl
weighs false false false true = refl
weighs false false false false = refl

-- the members are those that weigh something
pub member_weighs : (c : Weights) (n : ℕ) → contains (members_of c) n ≡ nat_lt 0 (weight_of c n)
member_weighs c n = in_members c n ∙ weighs (contains c.ones n) (contains c.twos n) (contains c.fours n) (contains c.eights n)

digit_most : (t : Bool) (w : ℕ) → cond t w 0 ≤ w
digit_most true w = omega arith
digit_most false w = omega arith

pub weight_most : (c : Weights) (n : ℕ) → weight_of c n ≤ 15
weight_most c n = omega (arith, digit_most (contains c.ones n) 1, digit_most (contains c.twos n) 2, digit_most (contains c.fours n) 4, digit_most (contains c.eights n) 8)

map-cond : {A B : Type 0} (g : A → B) (t : Bool) (x : A) (xs : List A) → map g (cond t (x ∷ xs) xs) ≡ cond t (g x ∷ map g xs) (map g xs)
map-cond g true x xs = refl
map-cond g false x xs = refl

members_are : (f : ℕ → ℕ) (p : ℕ → Bool) → ((n : ℕ) → p n ≡ nat_lt 0 (f n)) → (k a : ℕ) → map (λ n. member_text n (f n)) (filter p (rising k a)) ≡ parts f k a
unfolding rising parts
members_are f p each zero a = refl
members_are f p each (suc k) a =
    let rest = members_are f p each k (a + 1) in
    map-cond (λ n. member_text n (f n)) (p a) a (filter p (rising k (a + 1)))
    ∙ (λ i. cond (each a i) (member_text a (f a) ∷ rest i) (rest i))

pub conf_parts : (c : Weights) → conf_text c ≡ joined (parts (weight_of c) 64 1)
unfolding names
conf_parts c = ap joined (members_are (weight_of c) (contains (members_of c)) (member_weighs c) 64 1)

-- the parts depend on the weights of these names alone
pub parts-same : (f g : ℕ → ℕ) (k a : ℕ) → ((n : ℕ) → a ≤ n → n < a + k → f n ≡ g n) → parts f k a ≡ parts g k a
unfolding parts
parts-same f g zero a each = refl
parts-same f g (suc k) a each =
    let here = each a (omega arith) (omega arith) in
    let rest = parts-same f g k (a + 1) (λ n low high. each n (omega arith) (omega arith)) in
    λ i. cond (nat_lt 0 (here i)) (member_text a (here i) ∷ rest i) (rest i)

-- a set's names are members of weight 1
even_at : (t : Bool) (n : ℕ) (ws : List (List ℕ)) → cond t (decimal n ∷ ws) ws ≡ cond (nat_lt 0 (cond t 1 0)) (member_text n (cond t 1 0) ∷ ws) ws
even_at true n ws = ap (λ l. l ∷ ws) (sym (append-nil (decimal n)))
even_at false n ws = refl

names_are : (p : ℕ → Bool) (k a : ℕ) → map decimal (filter p (rising k a)) ≡ parts (λ n. cond (p n) 1 0) k a
unfolding rising parts
names_are p zero a = refl
names_are p (suc k) a =
    map-cond decimal (p a) a (filter p (rising k (a + 1)))
    ∙ ap (λ ws. cond (p a) (decimal a ∷ ws) ws) (names_are p k (a + 1))
    ∙ even_at (p a) a (parts (λ n. cond (p n) 1 0) k (a + 1))

pub even_weight : (s : NameSet) (n : ℕ) → weight_of (evenly s) n ≡ cond (contains s n) 1 0
even_weight s n = omega (arith, worthless 2 n, worthless 4 n, worthless 8 n)
  where
    worthless : (w n : ℕ) → cond (contains (empty {R = nat_cmp}) n) w 0 ≡ 0
    worthless w n = ap (λ t. cond t w 0) (contains-empty nat_cmp n)

pub even_text : (s : NameSet) → conf_text (evenly s) ≡ set_text s
unfolding names
even_text s =
    conf_parts (evenly s)
    ∙ ap joined (parts-same (weight_of (evenly s)) (λ n. cond (contains s n) 1 0) 64 1 (λ n _ _. even_weight s n) ∙ sym (names_are (contains s) 64 1))

-- one part more
pub parts-push : (f : ℕ → ℕ) (k a : ℕ) → parts f (suc k) a ≡ parts f k a ++ cond (nat_lt 0 (f (a + k))) (member_text (a + k) (f (a + k)) ∷ []) []
unfolding parts
parts-push f zero a = ap (λ n. cond (nat_lt 0 (f n)) (member_text n (f n) ∷ []) []) (let e : a ≡ a + 0 = omega arith in e)
parts-push f (suc k) a =
    (λ i. cond (nat_lt 0 (f a)) (member_text a (f a) ∷ parts-push f k (a + 1) i) (parts-push f k (a + 1) i))
    ∙ pulled (nat_lt 0 (f a)) (member_text a (f a)) (parts f k (a + 1)) (cond (nat_lt 0 (f ((a + 1) + k))) (member_text ((a + 1) + k) (f ((a + 1) + k)) ∷ []) [])
    ∙ ap (λ n. parts f (suc k) a ++ cond (nat_lt 0 (f n)) (member_text n (f n) ∷ []) []) (let e : (a + 1) + k ≡ a + suc k = omega arith in e)
  where
    pulled : (t : Bool) (x : List ℕ) (xs ys : List (List ℕ)) → cond t (x ∷ (xs ++ ys)) (xs ++ ys) ≡ cond t (x ∷ xs) xs ++ ys
    pulled true x xs ys = refl
    pulled false x xs ys = refl

-- the first part
pub parts-first : (f : ℕ → ℕ) (place : ℕ) → place < 64
    → parts f (64 - place) (place + 1) ≡ cond (nat_lt 0 (f (place + 1))) (member_text (place + 1) (f (place + 1)) ∷ parts f (64 - (place + 1)) (place + 1 + 1)) (parts f (64 - (place + 1)) (place + 1 + 1))
unfolding parts
parts-first f place h = ap (λ k. parts f k (place + 1)) (let e : 64 - place ≡ suc (64 - (place + 1)) = omega arith in e)

-- what comes behind a name begins with a greater one
abbrev pub StartsAbove : ℕ → List (List ℕ) → Type 0
StartsAbove n [] = Unit {0}
StartsAbove n (w ∷ ws) = (m : ℕ) × (v : ℕ) × (n < m) × (m < 2 ^ 64) × (v < 2 ^ 64) × (w ≡ member_text m v)

pub parts-above : (f : ℕ → ℕ) → ((n : ℕ) → f n ≤ 15) → (k a n : ℕ) → n < a → a + k ≤ 65 → StartsAbove n (parts f k a)
unfolding parts
parts-above f small zero a n low high = tt
parts-above f small (suc k) a n low high =
    let s = small a in
    elim (nat_lt 0 (f a)) as (λ t. StartsAbove n (cond t (member_text a (f a) ∷ parts f k (a + 1)) (parts f k (a + 1)))) [
      | true ↦ (a, f a, low, omega arith, omega (arith, s), refl)
      | false ↦ parts-above f small k (a + 1) n (omega arith) (omega arith)
    ]

pub ends : (ws : List (List ℕ)) → IsEnd (behind_commas ws)
ends [] = tt
ends (w ∷ ws) = refl

pub end_ends : (r : List ℕ) → IsEnd r → IsNumberEnd r
end_ends [] end = tt
end_ends (b ∷ bs) end = ap is_ascii_digit end

weight_ends : (w : ℕ) (r : List ℕ) → IsEnd r → IsNumberEnd (weight_text w ++ r)
weight_ends w r end =
    elim (nat_eq w 1) as (λ t. IsNumberEnd ((if t then [] else 58 ∷ decimal w) ++ r)) [
      | true ↦ end_ends r end
      | false ↦ refl
    ]

not_colon : (r q : List ℕ) → IsEnd r → r ≡ 58 ∷ q → ⊥
not_colon [] q end e = cc
not_colon (b ∷ bs) q end e = let is : b ≡ 58 = cc in omega (arith, end, is)

is_one : (w : ℕ) → nat_eq w 1 ≡ true → w ≡ 1
is_one w e = grind (arith, nat_tests)

one_weight : (t u : Bool) (w v : ℕ) (r q : List ℕ) → nat_eq w 1 ≡ t → nat_eq v 1 ≡ u → w < 2 ^ 64 → v < 2 ^ 64 → IsEnd r → IsEnd q
    → (if t then [] else 58 ∷ decimal w) ++ r ≡ (if u then [] else 58 ∷ decimal v) ++ q → (w ≡ v) × (r ≡ q)
one_weight true true w v r q tw tv h k er eq e = (is_one w tw ∙ sym (is_one v tv), e)
one_weight true false w v r q tw tv h k er eq e = absurd (not_colon r (decimal v ++ q) er e)
one_weight false true w v r q tw tv h k er eq e = absurd (not_colon q (decimal w ++ r) eq (sym e))
one_weight false false w v r q tw tv h k er eq e =
    let cut = same_end (decimal w) (decimal v) r q (digits_decimal digits w h) (digits_decimal digits v k) (end_ends r er) (end_ends q eq) (cc) in
    (decimal_injective w v h k cut.0, cut.1)

-- a member that ends is known by its text
pub one_member : (n m w v : ℕ) (r q : List ℕ) → n < 2 ^ 64 → m < 2 ^ 64 → w < 2 ^ 64 → v < 2 ^ 64 → IsEnd r → IsEnd q
    → member_text n w ++ r ≡ member_text m v ++ q → (n ≡ m) × (w ≡ v) × (r ≡ q)
one_member n m w v r q hn hm hw hv er eq e =
    let cut = same_end (decimal n) (decimal m) (weight_text w ++ r) (weight_text v ++ q) (digits_decimal digits n hn) (digits_decimal digits m hm) (weight_ends w r er) (weight_ends v q eq)
    (sym (append_assoc (decimal n) (weight_text w) r) ∙ e ∙ append_assoc (decimal m) (weight_text v) q) in
    let rest = one_weight (nat_eq w 1) (nat_eq v 1) w v r q refl refl hw hv er eq cut.1 in
    (decimal_injective n m hn hm cut.0, rest.0, rest.1)

-- no member's text begins as a dash does
no_dash : (n w : ℕ) (r : List ℕ) → n < 2 ^ 64 → IsEnd r → member_text n w ++ r ≡ 45 ∷ [] → ⊥
no_dash n w r h er e =
    let cut = same_end (decimal n) [] (weight_text w ++ r) (45 ∷ []) (digits_decimal digits n h) tt (weight_ends w r er) refl (sym (append_assoc (decimal n) (weight_text w) r) ∙ e) in
    let some : 0 < length (decimal n) = decimal_nonempty n h in
    let bad : length (decimal n) ≡ 0 = ap length cut.0 in
    omega arith

pub rest_text-part : (first : Bool) (w : List ℕ) (ws : List (List ℕ)) → rest_text first (w ∷ ws) ≡ before first ++ w ++ behind_commas ws
rest_text-part true w ws = refl
rest_text-part false w ws = refl

behind_before : (first : Bool) (a b r q : List ℕ) → before first ++ a ++ r ≡ before first ++ b ++ q → a ++ r ≡ b ++ q
behind_before first a b r q e =
    append_cancel_left (before first) (a ++ r) (b ++ q) (sym (append_assoc (before first) a r) ∙ e ∙ append_assoc (before first) b q)

-- a member stands only before what is greater
pub not_next : (first : Bool) (n w : ℕ) (r : List ℕ) (ws : List (List ℕ)) → n < 2 ^ 64 → w < 2 ^ 64 → IsEnd r → StartsAbove n ws
    → before first ++ member_text n w ++ r ≡ rest_text first ws → ⊥
not_next true n w r [] hn hw end above e = no_dash n w r hn end e
not_next false n w r [] hn hw end above e = cc
not_next first n w r (x ∷ ws) hn hw end above e =
    let m = above.0 in
    let v = above.1 in
    let more = above.2 in
    let same = one_member n m w v r (behind_commas ws) hn above.3 hw above.4 end (ends ws)
    (behind_before first (member_text n w) (member_text m v) r (behind_commas ws) (e ∙ rest_text-part first x ws ∙ ap (λ l. before first ++ l ++ behind_commas ws) above.5)) in
    let is = same.0 in
    omega (arith, more, is)

-- and what stands at its place is that member
pub is_next : (first : Bool) (n w v : ℕ) (r : List ℕ) (ws : List (List ℕ)) → n < 2 ^ 64 → w < 2 ^ 64 → v < 2 ^ 64 → IsEnd r
    → before first ++ member_text n w ++ r ≡ rest_text first (member_text n v ∷ ws) → (w ≡ v) × (r ≡ behind_commas ws)
is_next first n w v r ws hn hw hv end e =
    let same = one_member n n w v r (behind_commas ws) hn hn hw hv end (ends ws)
    (behind_before first (member_text n w) (member_text n v) r (behind_commas ws) (e ∙ rest_text-part first (member_text n v) ws)) in
    (same.1, same.2)

nothing_passes : (p : ℕ → Bool) (xs : List ℕ) → how_many p xs ≡ 0 → filter p xs ≡ []
nothing_passes p [] none = refl
nothing_passes p (x ∷ xs) none =
    elim (p x) as (λ t. cond t 1 0 + how_many p xs ≡ 0 → cond t (x ∷ filter p xs) (filter p xs) ≡ []) [
      | true ↦ λ e. absurd (omega arith)
      | false ↦ λ e. nothing_passes p xs (omega arith)
    ] none

-- a configuration with no member is a dash
pub none_text : (c : Weights) → count_of (members_of c) ≡ 0 → conf_text c ≡ 45 ∷ []
unfolding count_of names
none_text c none = ap (λ ns. joined (map (λ n. member_text n (weight_of c n)) ns)) (nothing_passes (contains (members_of c)) (rising 64 1) none)

no_parts : (f : ℕ → ℕ) (p : ℕ → Bool) → ((n : ℕ) → p n ≡ nat_lt 0 (f n)) → (k a : ℕ) → parts f k a ≡ [] → how_many p (rising k a) ≡ 0
unfolding parts rising
no_parts f p each zero a e = refl
no_parts f p each (suc k) a e =
    elim (nat_lt 0 (f a)) as (λ t. p a ≡ t → cond t (member_text a (f a) ∷ parts f k (a + 1)) (parts f k (a + 1)) ≡ [] → cond (p a) 1 0 + how_many p (rising k (a + 1)) ≡ 0) [
      | true ↦ λ is some. cc
      | false ↦ λ is none. (λ i. cond (is i) 1 0 + no_parts f p each k (a + 1) none i)
    ] (each a) e

dash_alone : (ws : List (List ℕ)) → StartsAbove 0 ws → joined ws ≡ 45 ∷ [] → ws ≡ []
dash_alone [] above e = refl
dash_alone (w ∷ ws) above e =
    absurd (no_dash above.0 above.1 (behind_commas ws) above.3 (ends ws) (ap (λ l. l ++ behind_commas ws) (sym above.5) ∙ e))

-- and no other one is
pub text_none : (c : Weights) → conf_text c ≡ 45 ∷ [] → count_of (members_of c) ≡ 0
unfolding count_of
text_none c e =
    no_parts (weight_of c) (contains (members_of c)) (member_weighs c) 64 1
    (dash_alone (parts (weight_of c) 64 1) (parts-above (weight_of c) (weight_most c) 64 1 0 (omega arith) (omega arith)) (sym (conf_parts c) ∙ e))

none-among : (ns : List ℕ) (p : ℕ → Bool) → ((n : ℕ) → p n ≡ false) → how_many p ns ≡ 0
none-among [] p each = refl
none-among (x ∷ xs) p each = (λ i. cond (each x i) 1 0 + none-among xs p each i)

pub empty_weight : (n : ℕ) → weight_of (evenly (empty {R = nat_cmp})) n ≡ 0
empty_weight n = even_weight (empty {R = nat_cmp}) n ∙ ap (λ t. cond t 1 0) (contains-empty nat_cmp n)

pub empty_text : conf_text (evenly (empty {R = nat_cmp})) ≡ 45 ∷ []
unfolding count_of
empty_text =
    none_text (evenly (empty {R = nat_cmp}))
    (none-among (rising 64 1) (contains (members_of (evenly (empty {R = nat_cmp})))) (λ n. member_weighs (evenly (empty {R = nat_cmp})) n ∙ ap (nat_lt 0) (empty_weight n)))
