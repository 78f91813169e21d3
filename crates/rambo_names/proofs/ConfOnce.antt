-- A text is that of one configuration at most
use Rattle.std.proofs.Common.{◌≡◌, ℕ, zero, suc, ◌+◌, ◌*◌, ◌^◌, ◌<◌, ◌≤◌, Bool, true, false, cond, not, ◌&&◌, List, ◌∷◌, inl, inr, refl, sym, ap, ◌∙◌, arith, true≢false}
use Rattle.std.specs.Prelude.{nat_lt}
use Rattle.std.proofs.lemmas.Bool.{cases_lt}
use Rattle.std.proofs.lemmas.Bool.Decides.{nat_tests}
use Rattle.std.specs.Cmp.{nat_cmp_total}
use Rattle.std.specs.FinSet.{contains, same_set, nat_cmp-IsAntisymmetric}
use Rattle.rambo_names.specs.Names.{NameSet, IsName, AreNames, same_names}
use Rattle.rambo_names.specs.Same.{same_names-refl}
use Rattle.rambo_names.specs.Signs.{behind_commas, member_text, conf_text, set_text, IsConf}
use Rattle.rambo_names.specs.Weights.{Weights, weight_of, members_of, evenly}
use Rattle.rambo_names.specs.WeightLaws.{same_weights}
use Rattle.rambo_names.proofs.ConfTexts.{parts, rest_text, rest_text-part, StartsAbove, parts-above, conf_parts, not_next, is_next, ends, even_text, even_weight, member_weighs, weight_most}

same_heads : (t u : Bool) (first : Bool) (a x y : ℕ) (ws vs : List (List ℕ)) → a < 2 ^ 64 → x < 2 ^ 64 → y < 2 ^ 64 → StartsAbove a ws → StartsAbove a vs
    → rest_text first (cond t (member_text a x ∷ ws) ws) ≡ rest_text first (cond u (member_text a y ∷ vs) vs)
    → (t ≡ u) × (t ≡ true → x ≡ y) × (rest_text (not t && first) ws ≡ rest_text (not t && first) vs)
same_heads true true first a x y ws vs ha hx hy p q e =
    let same = is_next first a x y (behind_commas ws) vs ha hx hy (ends ws) (sym (rest_text-part first (member_text a x) ws) ∙ e) in
    (refl, (λ _. same.0), same.1)
same_heads true false first a x y ws vs ha hx hy p q e =
    absurd (not_next first a x (behind_commas ws) vs ha hx (ends ws) q (sym (rest_text-part first (member_text a x) ws) ∙ e))
same_heads false true first a x y ws vs ha hx hy p q e =
    absurd (not_next first a y (behind_commas vs) ws ha hy (ends vs) p (sym (rest_text-part first (member_text a y) vs) ∙ sym e))
same_heads false false first a x y ws vs ha hx hy p q e = (refl, (λ bad. absurd (true≢false (sym bad))), e)

nothing : (x : ℕ) → nat_lt 0 x ≡ false → x ≡ 0
nothing x e = grind (arith, nat_tests)

same_weight : (x y : ℕ) → nat_lt 0 x ≡ nat_lt 0 y → (nat_lt 0 x ≡ true → x ≡ y) → x ≡ y
same_weight x y e f =
    elim (nat_lt 0 x) as (λ t. nat_lt 0 x ≡ t → x ≡ y) [
      | true ↦ f
      | false ↦ λ none. nothing x none ∙ sym (nothing y (sym e ∙ none))
    ] refl

same_parts : (f g : ℕ → ℕ) → ((n : ℕ) → f n ≤ 15) → ((n : ℕ) → g n ≤ 15) → (k a : ℕ) (first : Bool) → a + k ≤ 65
    → rest_text first (parts f k a) ≡ rest_text first (parts g k a) → (n : ℕ) → a ≤ n → n < a + k → f n ≡ g n
unfolding parts
same_parts f g sf sg zero a first high e n low below = absurd (omega arith)
same_parts f g sf sg (suc k) a first high e n low below =
    let x = sf a in
    let y = sg a in
    let heads = same_heads (nat_lt 0 (f a)) (nat_lt 0 (g a)) first a (f a) (g a) (parts f k (a + 1)) (parts g k (a + 1)) (omega arith) (omega (arith, x)) (omega (arith, y))
    (parts-above f sf k (a + 1) a (omega arith) (omega arith)) (parts-above g sg k (a + 1) a (omega arith) (omega arith)) e in
    elim (cases_lt a n) [
      | inl lt ↦ same_parts f g sf sg k (a + 1) (not (nat_lt 0 (f a)) && first) (omega arith) heads.2 n (omega arith) (omega arith)
      | inr ge ↦ let is : n ≡ a = omega arith in ap f is ∙ same_weight (f a) (g a) heads.0 heads.1 ∙ sym (ap g is)
    ]

-- a text tells the weights of all names
pub weights_told : (c d : Weights) → conf_text c ≡ conf_text d → (n : ℕ) → IsName n → weight_of c n ≡ weight_of d n
weights_told c d e n is =
    same_parts (weight_of c) (weight_of d) (weight_most c) (weight_most d) 64 1 true (omega arith) (sym (conf_parts c) ∙ e ∙ conf_parts d) n is.0 (omega (arith, is.1))

first_digit : (a b : Bool) (m n : ℕ) → cond a 1 0 + 2 * m ≡ cond b 1 0 + 2 * n → (a ≡ b) × (m ≡ n)
first_digit true true m n e = (refl, omega arith)
first_digit true false m n e = absurd (omega arith)
first_digit false true m n e = absurd (omega arith)
first_digit false false m n e = (refl, omega arith)

worth : (w : ℕ) (t : Bool) → cond t w 0 ≡ w * cond t 1 0
worth w true = omega arith
worth w false = omega arith

same_digits : (o t f e p u g h : Bool) → cond o 1 0 + cond t 2 0 + cond f 4 0 + cond e 8 0 ≡ cond p 1 0 + cond u 2 0 + cond g 4 0 + cond h 8 0
    → (o ≡ p) × (t ≡ u) × (f ≡ g) × (e ≡ h)
same_digits o t f e p u g h is =
    let a = first_digit o p (cond t 1 0 + 2 * (cond f 1 0 + 2 * cond e 1 0)) (cond u 1 0 + 2 * (cond g 1 0 + 2 * cond h 1 0))
    (omega (arith, is, worth 2 t, worth 4 f, worth 8 e, worth 2 u, worth 4 g, worth 8 h)) in
    let b = first_digit t u (cond f 1 0 + 2 * cond e 1 0) (cond g 1 0 + 2 * cond h 1 0) a.1 in
    let c = first_digit f g (cond e 1 0) (cond h 1 0) b.1 in
    let last = c.1 in
    let d = first_digit e h 0 0 (omega (arith, last)) in
    (a.0, b.0, c.0, d.0)

-- a configuration is known by the weights of all numbers
known : (c d : Weights) → ((n : ℕ) → weight_of c n ≡ weight_of d n) → c ≡ d
known c d each = λ i. record {
  ones = same_set nat_cmp_total nat_cmp-IsAntisymmetric c.ones d.ones (λ q. (all q).0) i;
  twos = same_set nat_cmp_total nat_cmp-IsAntisymmetric c.twos d.twos (λ q. (all q).1) i;
  fours = same_set nat_cmp_total nat_cmp-IsAntisymmetric c.fours d.fours (λ q. (all q).2) i;
  eights = same_set nat_cmp_total nat_cmp-IsAntisymmetric c.eights d.eights (λ q. (all q).3) i;
}
  where
    all : (q : ℕ) → (contains c.ones q ≡ contains d.ones q) × (contains c.twos q ≡ contains d.twos q) × (contains c.fours q ≡ contains d.fours q) × (contains c.eights q ≡ contains d.eights q)
    all q = same_digits (contains c.ones q) (contains c.twos q) (contains c.fours q) (contains c.eights q) (contains d.ones q) (contains d.twos q) (contains d.fours q) (contains d.eights q) (each q)

-- what is no name weighs nothing
strange : (c : Weights) → IsConf c → (n : ℕ) → (IsName n → ⊥) → weight_of c n ≡ 0
strange c is n none =
    elim (nat_lt 0 (weight_of c n)) as (λ t. nat_lt 0 (weight_of c n) ≡ t → weight_of c n ≡ 0) [
      | true ↦ λ e. absurd (none (is n (member_weighs c n ∙ e)))
      | false ↦ nothing (weight_of c n)
    ] refl

-- one whose members are names is known by the weights of all names
known_by_names : (c d : Weights) → IsConf c → IsConf d → ((n : ℕ) → IsName n → weight_of c n ≡ weight_of d n) → c ≡ d
known_by_names c d a b each = known c d (λ n. elim (cases_lt 64 n) [
  | inl over ↦ strange c a n (λ is. let high = is.1 in omega arith) ∙ sym (strange d b n (λ is. let high = is.1 in omega arith))
  | inr within ↦ elim (cases_lt 0 n) [
    | inl some ↦ each n (omega arith, omega arith)
    | inr none ↦ strange c a n (λ is. let low = is.0 in omega arith) ∙ sym (strange d b n (λ is. let low = is.0 in omega arith))
  ]
])

pub one_conf_is : (c d : Weights) → IsConf c → IsConf d → conf_text c ≡ conf_text d → c ≡ d
one_conf_is c d a b e = known_by_names c d a b (weights_told c d e)

some_weigh : (t : Bool) → nat_lt 0 (cond t 1 0) ≡ t
some_weigh true = refl
some_weigh false = refl

-- the members of a set are its names
pub even_members : (s : NameSet) (n : ℕ) → contains (members_of (evenly s)) n ≡ contains s n
even_members s n = member_weighs (evenly s) n ∙ ap (nat_lt 0) (even_weight s n) ∙ some_weigh (contains s n)

-- a configuration with the text of a set is even
even_told : (c : Weights) (s : NameSet) → IsConf c → conf_text c ≡ set_text s → c ≡ evenly (members_of c)
even_told c s is e =
    known_by_names c (evenly (members_of c)) is (λ n has. is n (sym (even_members (members_of c) n) ∙ has))
    (λ n name. let told = weights_told c (evenly s) (e ∙ sym (even_text s)) n name ∙ even_weight s n in
    told ∙ sym (even_weight (members_of c) n ∙ ap (λ t. cond t 1 0) (member_weighs c n ∙ ap (nat_lt 0) told ∙ some_weigh (contains s n))))

pub even_tested : (c : Weights) (s : NameSet) → IsConf c → conf_text c ≡ set_text s → same_weights c (evenly (members_of c)) ≡ true
even_tested c s is e = ap (same_weights c) (sym (even_told c s is e)) ∙ same_weights-refl c
  where
    all : (a b c d : Bool) → a ≡ true → b ≡ true → c ≡ true → d ≡ true → (a && (b && (c && d))) ≡ true
    all true true true true e f g h = refl
    all true true true false e f g h = h
    all true true false d e f g h = g
    all true false c d e f g h = f
    all false b c d e f g h = e

    same_weights-refl : (c : Weights) → same_weights c c ≡ true
    same_weights-refl c =
        all (same_names c.ones c.ones) (same_names c.twos c.twos) (same_names c.fours c.fours) (same_names c.eights c.eights)
        (same_names-refl c.ones) (same_names-refl c.twos) (same_names-refl c.fours) (same_names-refl c.eights)

pub one_set_is : (s t : NameSet) → AreNames s → AreNames t → set_text s ≡ set_text t → s ≡ t
one_set_is s t a b e =
    ap (λ (c : Weights). c.ones) (one_conf_is (evenly s) (evenly t) (λ n has. a n (sym (even_members s n) ∙ has)) (λ n has. b n (sym (even_members t n) ∙ has))
    (even_text s ∙ e ∙ sym (even_text t)))
