-- The steps of reading a configuration
use Rattle.std.proofs.Common.{◌≡◌, ℕ, zero, suc, inl, inr, ◌+◌, ◌-◌, ◌^◌, ◌<◌, ◌≤◌, Bool, true, false, cond, ◌||◌, not, nat_eq, List, [], ◌∷◌, ◌++◌, length, refl, sym, ap, ◌∙◌, arith, true≢false, append_assoc, append-nil, subst}
use Rattle.std.specs.Prelude.{if◌then◌else◌, nat_lt}
use Rattle.std.proofs.lemmas.Bool.{cases_lt}
use Rattle.std.proofs.lemmas.Bool.Decides.{nat_tests}
use Rattle.std.specs.FinSet.{contains}
use Rattle.std.specs.Str.{bytes_eq}
use Rattle.std.proofs.lemmas.Slice.Eq.{bytes_eq-Decides}
use Rattle.rambo_names.specs.Signs.{behind_commas, joined, member_text, conf_text, before, IsEnd, IsWeight, IsConf}
use Rattle.rambo_names.specs.Weights.{Weights, weight_of, members_of}
use Rattle.rambo_names.proofs.ConfTexts.{parts, rest_text, rest_text-part, front_text, StartsAbove, parts-above, parts-push, parts-same, parts-first, conf_parts, not_next, is_next, ends, member_weighs, weight_most}

-- whether a member has come, and the texts of those that have
abbrev pub FirstIs : Bool → List (List ℕ) → Type 0
FirstIs true ws = ws ≡ []
FirstIs false ws = (v : List ℕ) × (vs : List (List ℕ)) × (ws ≡ v ∷ vs)

-- what holds before the name place + 1 is looked for, by the weights that have been read
pub record Reads (bytes : List ℕ) (first : Bool) (f : ℕ → ℕ) (rest : List ℕ) (place : ℕ) : Type 0 where
  pub whole : bytes ≡ front_text first (parts f place 1) ++ rest
  pub later : (c : Weights) → bytes ≡ conf_text c → rest ≡ rest_text first (parts (weight_of c) (64 - place) (place + 1))
  pub above : (q : ℕ) → place < q → f q ≡ 0
  pub first_is : FirstIs first (parts f place 1)
  pub no_zero : f 0 ≡ 0

behind-push : (ws : List (List ℕ)) (w : List ℕ) → behind_commas (ws ++ w ∷ []) ≡ behind_commas ws ++ (44 ∷ w)
behind-push [] w = ap (λ l. 44 ∷ l) (append-nil w)
behind-push (v ∷ vs) w = ap (λ l. (44 ∷ v) ++ l) (behind-push vs w) ∙ sym (append_assoc (44 ∷ v) (behind_commas vs) (44 ∷ w))

-- one more member has come
whole-member : (first : Bool) (ws : List (List ℕ)) (w bytes rest r : List ℕ) → FirstIs first ws → bytes ≡ front_text first ws ++ rest
    → rest ≡ before first ++ w ++ r → bytes ≡ joined (ws ++ w ∷ []) ++ r
whole-member true ws w bytes rest r none whole is =
    whole ∙ is ∙ ap (λ l. l ++ r) (sym (append-nil w)) ∙ ap (λ l. joined (l ++ w ∷ []) ++ r) (sym none)
whole-member false ws w bytes rest r some whole is =
    whole
    ∙ (λ i. joined (some.2 i) ++ is i)
    ∙ sym (append_assoc (joined (some.0 ∷ some.1)) (44 ∷ w) r)
    ∙ ap (λ l. l ++ r) (append_assoc some.0 (behind_commas some.1) (44 ∷ w) ∙ ap (λ l. some.0 ++ l) (sym (behind-push some.1 w)))
    ∙ ap (λ l. joined (l ++ w ∷ []) ++ r) (sym some.2)

weighs : (w : ℕ) → 1 ≤ w → nat_lt 0 w ≡ true
weighs w h = grind (arith, nat_tests)

grown : (f g : ℕ → ℕ) (place w : ℕ) → 1 ≤ w → ((n : ℕ) → g n ≡ (if nat_eq n (place + 1) then w else f n)) → parts g (place + 1) 1 ≡ parts f place 1 ++ member_text (place + 1) w ∷ []
grown f g place w some is =
    let here : g (1 + place) ≡ w = ap g (let e : 1 + place ≡ place + 1 = omega arith in e) ∙ is (place + 1) ∙ at_it (place + 1) w (f (place + 1)) in
    ap (λ k. parts g k 1) (let e : place + 1 ≡ suc place = omega arith in e)
    ∙ parts-push g place 1
    ∙ (λ i. parts-same g f place 1 (λ n low high. is n ∙ below n (place + 1) w (f n) (omega arith)) i
    ++ cond (nat_lt 0 (here i)) (member_text ((let e : 1 + place ≡ place + 1 = omega arith in e) i) (here i) ∷ []) [])
    ∙ ap (λ t. parts f place 1 ++ cond t (member_text (place + 1) w ∷ []) []) (weighs w some)
  where
    at_it : (n w v : ℕ) → (if nat_eq n n then w else v) ≡ w
    at_it n w v = ap (λ t. if t then w else v) (let e : nat_eq n n ≡ true = grind (arith, nat_tests) in e)

    below : (n m w v : ℕ) → n < m → (if nat_eq n m then w else v) ≡ v
    below n m w v h = ap (λ t. if t then w else v) (let e : nat_eq n m ≡ false = grind (arith, nat_tests) in e)

elsewhere : (n m w v : ℕ) → (n ≡ m → ⊥) → (if nat_eq n m then w else v) ≡ v
elsewhere n m w v h = ap (λ t. if t then w else v) (let e : nat_eq n m ≡ false = grind (arith, nat_tests) in e)

-- behind a member that was found come the rest
rest-member : (first : Bool) (n w v : ℕ) (ws : List (List ℕ)) (rest r : List ℕ) → n < 2 ^ 64 → IsWeight w → v ≤ 15 → StartsAbove n ws → rest ≡ before first ++ member_text n w ++ r → IsEnd r
    → rest ≡ rest_text first (cond (nat_lt 0 v) (member_text n v ∷ ws) ws) → r ≡ behind_commas ws
rest-member first n w v ws rest r hn hw hv above is end text =
    let high = hw.1 in
    elim (nat_lt 0 v) as (λ t. rest ≡ rest_text first (cond t (member_text n v ∷ ws) ws) → r ≡ behind_commas ws) [
      | true ↦ λ e. (is_next first n w v r ws hn (omega arith) (omega arith) end (sym is ∙ e)).1
      | false ↦ λ e. absurd (not_next first n w r ws hn (omega arith) end above (sym is ∙ e))
    ] text

-- where none was found the name has no weight
rest-other : (first : Bool) (n v : ℕ) (ws : List (List ℕ)) (rest : List ℕ) → v ≤ 15 → ((w : ℕ) (r : List ℕ) → IsWeight w → IsEnd r → rest ≡ before first ++ member_text n w ++ r → ⊥)
    → rest ≡ rest_text first (cond (nat_lt 0 v) (member_text n v ∷ ws) ws) → rest ≡ rest_text first ws
rest-other first n v ws rest hv none text =
    elim (nat_lt 0 v) as (λ t. nat_lt 0 v ≡ t → rest ≡ rest_text first (cond t (member_text n v ∷ ws) ws) → rest ≡ rest_text first ws) [
      | true ↦ λ some e. absurd (none v (behind_commas ws) (at_least v some, hv) (ends ws) (e ∙ rest_text-part first (member_text n v) ws))
      | false ↦ λ _ e. e
    ] refl text
  where
    at_least : (v : ℕ) → nat_lt 0 v ≡ true → 1 ≤ v
    at_least v e = grind (arith, nat_tests)

left : (c : Weights) (place : ℕ) → place < 64 → StartsAbove (place + 1) (parts (weight_of c) (64 - (place + 1)) (place + 1 + 1))
left c place h = parts-above (weight_of c) (weight_most c) (64 - (place + 1)) (place + 1 + 1) (place + 1) (omega arith) (omega arith)

-- the member was found
pub reads-member : (bytes : List ℕ) (first : Bool) (f g : ℕ → ℕ) (rest r : List ℕ) (place w : ℕ) → place < 64 → Reads bytes first f rest place → IsWeight w
    → rest ≡ before first ++ member_text (place + 1) w ++ r → IsEnd r → ((n : ℕ) → g n ≡ (if nat_eq n (place + 1) then w else f n)) → Reads bytes false g r (place + 1)
reads-member bytes first f g rest r place w h now weight is end put =
    let more = grown f g place w weight.0 put in
    record {
      whole = whole-member first (parts f place 1) (member_text (place + 1) w) bytes rest r now.first_is now.whole is ∙ ap (λ l. joined l ++ r) (sym more);
      later = λ c e. rest-member first (place + 1) w (weight_of c (place + 1)) (parts (weight_of c) (64 - (place + 1)) (place + 1 + 1)) rest r (omega arith) weight (weight_most c (place + 1)) (left c place h) is end
          (now.later c e ∙ ap (rest_text first) (parts-first (weight_of c) place h));
      above = λ q lt. put q ∙ elsewhere q (place + 1) w (f q) (λ same. omega arith) ∙ now.above q (omega arith);
      first_is = some (parts f place 1) (member_text (place + 1) w) (parts g (place + 1) 1) more;
      no_zero = put 0 ∙ elsewhere 0 (place + 1) w (f 0) (λ same. omega arith) ∙ now.no_zero;
    }
  where
    some : (xs : List (List ℕ)) (n : List ℕ) (ys : List (List ℕ)) → ys ≡ xs ++ n ∷ [] → (m : List ℕ) × (ms : List (List ℕ)) × (ys ≡ m ∷ ms)
    some [] n ys e = (n, [], e)
    some (x ∷ xs) n ys e = (x, xs ++ n ∷ [], e)

-- it wasn't
pub reads-other : (bytes : List ℕ) (first : Bool) (f : ℕ → ℕ) (rest : List ℕ) (place : ℕ) → place < 64 → Reads bytes first f rest place
    → ((w : ℕ) (r : List ℕ) → IsWeight w → IsEnd r → rest ≡ before first ++ member_text (place + 1) w ++ r → ⊥) → Reads bytes first f rest (place + 1)
reads-other bytes first f rest place h now none =
    let same : parts f place 1 ≡ parts f (place + 1) 1 = sym (unchanged f place (now.above (place + 1) (omega arith))) in
    record {
      whole = now.whole ∙ ap (λ ws. front_text first ws ++ rest) same;
      later = λ c e. rest-other first (place + 1) (weight_of c (place + 1)) (parts (weight_of c) (64 - (place + 1)) (place + 1 + 1)) rest (weight_most c (place + 1)) none
          (now.later c e ∙ ap (rest_text first) (parts-first (weight_of c) place h));
      above = λ q lt. now.above q (omega arith);
      first_is = subst (FirstIs first) same now.first_is;
      no_zero = now.no_zero;
    }
  where
    unchanged : (f : ℕ → ℕ) (place : ℕ) → f (place + 1) ≡ 0 → parts f (place + 1) 1 ≡ parts f place 1
    unchanged f place none =
        let e : 1 + place ≡ place + 1 = omega arith in
        ap (λ k. parts f k 1) (let e : place + 1 ≡ suc place = omega arith in e)
        ∙ parts-push f place 1
        ∙ ap (λ v. parts f place 1 ++ cond (nat_lt 0 v) (member_text (1 + place) v ∷ []) []) (ap f e ∙ none)
        ∙ append-nil (parts f place 1)

-- the start
pub reads-start : (bytes : List ℕ) (f : ℕ → ℕ) → ((q : ℕ) → f q ≡ 0) → Reads bytes true f bytes 0
unfolding parts
reads-start bytes f none = record { whole = refl; later = λ c e. e ∙ conf_parts c; above = λ q _. none q; first_is = refl; no_zero = none 0 }

at_end : (place : ℕ) → 64 ≤ place → place ≤ 64 → place ≡ 64
at_end place high low = omega arith

-- at the end the members are names
pub reads-names : (bytes : List ℕ) (first : Bool) (c : Weights) (rest : List ℕ) (place : ℕ) → 64 ≤ place → place ≤ 64 → Reads bytes first (weight_of c) rest place → IsConf c
reads-names bytes first c rest place high low now q has = (above_zero q has, below_it q has)
  where
    none : (q : ℕ) → contains (members_of c) q ≡ true → weight_of c q ≡ 0 → ⊥
    none q has zero_is = true≢false (sym has ∙ member_weighs c q ∙ ap (nat_lt 0) zero_is)

    above_zero : (q : ℕ) → contains (members_of c) q ≡ true → 1 ≤ q
    above_zero zero has = absurd (none 0 has now.no_zero)
    above_zero (suc q) has = omega arith

    below_it : (q : ℕ) → contains (members_of c) q ≡ true → q ≤ 64
    below_it q has = elim (cases_lt place q) [
      | inl over ↦ absurd (none q has (now.above q over))
      | inr under ↦ omega arith
    ]

-- at the end nothing is left to come
reads-end : (bytes : List ℕ) (first : Bool) (f : ℕ → ℕ) (rest : List ℕ) (place : ℕ) → 64 ≤ place → Reads bytes first f rest place
    → (c : Weights) → bytes ≡ conf_text c → rest ≡ rest_text first []
unfolding parts
reads-end bytes first f rest place h now c e =
    now.later c e ∙ ap (λ k. rest_text first (parts (weight_of c) k (place + 1))) (let z : 64 - place ≡ 0 = omega arith in z)

-- so a text that isn't used up spells no configuration
pub nothing_spelt : (bytes : List ℕ) (first : Bool) (f : ℕ → ℕ) (rest : List ℕ) (place : ℕ) → 64 ≤ place → Reads bytes first f rest place
    → false ≡ bytes_eq bytes (45 ∷ []) → (first || not (nat_eq (length rest) 0)) ≡ true → (c : Weights) → bytes ≡ conf_text c → ⊥
nothing_spelt bytes true f rest place h now dash more c e =
    true≢false (sym ((bytes_eq-Decides bytes (45 ∷ [])).1 (now.whole ∙ reads-end bytes true f rest place h now c e)) ∙ sym dash)
nothing_spelt bytes false f rest place h now dash more c e =
    let none = reads-end bytes false f rest place h now c e in
    true≢false (sym more ∙ ap (λ r. not (nat_eq (length r) 0)) none)

is_zero : (n : ℕ) → nat_eq n 0 ≡ true → n ≡ 0
is_zero n e = grind (arith, nat_tests)

nothing_left : (rest : List ℕ) → nat_eq (length rest) 0 ≡ true → rest ≡ []
nothing_left [] e = refl
nothing_left (x ∷ xs) e = absurd (let none = is_zero (length (x ∷ xs)) e in omega (arith, none))

-- and one that is used up spells what was read
pub all_spelt : (bytes : List ℕ) (first : Bool) (c : Weights) (rest : List ℕ) (place : ℕ) → 64 ≤ place → place ≤ 64 → Reads bytes first (weight_of c) rest place
    → first ≡ false → nat_eq (length rest) 0 ≡ true → bytes ≡ conf_text c
all_spelt bytes first c rest place high low now later used =
    now.whole
    ∙ (λ i. front_text (later i) (parts (weight_of c) (at_end place high low i) 1) ++ nothing_left rest used i)
    ∙ append-nil (joined (parts (weight_of c) 64 1))
    ∙ sym (conf_parts c)
