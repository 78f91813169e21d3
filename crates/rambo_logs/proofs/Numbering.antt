-- Keys and their numbers
use Rattle.std.proofs.Common.{◌≡◌, ◌⊎◌, ℕ, zero, suc, ◌+◌, ◌<◌, false, cond, List, [], ◌∷◌, ◌++◌, map, length, nat_eq, None, Some, is_some, sym, ap, ◌∙◌, true≢false, inl, inr, arith}
use Rattle.std.specs.Prelude.{slice_index_or, slice_get}
use Rattle.std.specs.List.{IsDistinct, range_with_len}
use Rattle.std.specs.Map.{keys_of, lookup}
use Rattle.std.specs.Option.{unwrap_or}
use Rattle.std.specs.Str.{bytes_eq}
use Rattle.std.specs.Cmp.Lexicographic.{nat_list_eq_equiv}
use Rattle.std.proofs.lemmas.Bool.{cases_Bool, cases_lt, eqb-true}
use Rattle.std.proofs.lemmas.Bool.Decides.{nat_tests}
use Rattle.std.proofs.lemmas.List.FromFn.{length-map-range_with_len, get_or-map-range_with_len, map-range_with_len_more, fill_by_all}
use Rattle.std.proofs.lemmas.Map.Entries.{place_from_lookup, lookup_from_place}
use Rattle.rambo_tag.proofs.Keys.{bytes_eq-itself, bytes_eq-true}
use Rattle.rambo_logs.specs.Stored.{AreDistinct}
use Rattle.rambo_logs.specs.Numbers.{key_of, by_number, AreNumbers}

-- the key of a number stands with it
its_place : (es : List (List ℕ × ℕ)) (n i : ℕ) (key : List ℕ) → slice_get es i ≡ Some (key, n) → (j : ℕ) × (slice_get es j ≡ Some (key_of es n, n))
its_place [] n i key h = absurd (true≢false (sym (ap is_some h)))
its_place (e ∷ es) n i key h =
    elim (cases_Bool (nat_eq e.1 n)) [
      | inl same ↦ (0, λ k. Some (cond (sym same k) e.0 (key_of es n), eqb-true e.1 n same k))
      | inr other ↦ later i h other (its_place es n)
    ]
  where
    later : (i : ℕ) → slice_get (e ∷ es) i ≡ Some (key, n) → nat_eq e.1 n ≡ false
        → ((i : ℕ) (key : List ℕ) → slice_get es i ≡ Some (key, n) → (j : ℕ) × (slice_get es j ≡ Some (key_of es n, n)))
        → (j : ℕ) × (slice_get (e ∷ es) j ≡ Some (key_of (e ∷ es) n, n))
    later zero h other rest =
        let same : e.1 ≡ n = ap (λ o. (unwrap_or o e).1) h in
        absurd (true≢false (sym (grind (arith, nat_tests)) ∙ other))
    later (suc i) h other rest =
        let its = rest i key h in
        (suc its.0, its.1 ∙ λ k. Some (cond (sym other k) e.0 (key_of es n), n))

found : (es : List (List ℕ × ℕ)) (key : List ℕ) (n : ℕ) → IsDistinct bytes_eq (keys_of es) → lookup (bytes_eq key) es ≡ Some n → lookup (bytes_eq (key_of es n)) es ≡ Some n
found es key n distinct h =
    let stands = place_from_lookup (bytes_eq key) es n h in
    let its = its_place es n stands.0 stands.1 stands.2 in
    lookup_from_place nat_list_eq_equiv es its.0 (key_of es n) n distinct its.1

module _ (es : List (List ℕ × ℕ)) where
  length-by_number : length (by_number es) ≡ length es
  length-by_number = length-map-range_with_len (key_of es) 0 (length es)

  key_at : (n : ℕ) → n < length es → slice_index_or (by_number es) n [] ≡ key_of es n
  key_at n below = get_or-map-range_with_len (key_of es) 0 (length es) n n [] below (omega arith)

  module _ (h : AreNumbers es) where
    -- a number that a key has is below the number of keys
    pub known_number : (key : List ℕ) (n : ℕ) → lookup (bytes_eq key) es ≡ Some n → n < length (by_number es)
    known_number key n stands = let its = (h.known key n stands).0 in omega (arith, its, length-by_number)

    -- and there the key is
    pub found_key : (key : List ℕ) (n : ℕ) → lookup (bytes_eq key) es ≡ Some n → slice_index_or (by_number es) n [] ≡ key
    found_key key n stands = let its = h.known key n stands in key_at n its.0 ∙ its.1

    -- no key has two numbers
    pub one_number : AreDistinct (by_number es)
    one_number i j here there same =
        let first : i < length es = omega (arith, here, length-by_number) in
        let second : j < length es = omega (arith, there, length-by_number) in
        let both : Some i ≡ Some j = sym (h.each i first) ∙ ap (λ k. lookup (bytes_eq k) es) (sym (key_at i first) ∙ same ∙ key_at j second) ∙ h.each j second in
        ap (λ o. unwrap_or o i) both

-- a key that has no number gets the next one
module _ (es fs : List (List ℕ × ℕ)) (key : List ℕ) (h : AreNumbers es) (count : length fs ≡ length es + 1) (absent : lookup (bytes_eq key) es ≡ None)
    (put : (q : List ℕ) → lookup (bytes_eq q) fs ≡ cond (bytes_eq key q) (Some (length es)) (lookup (bytes_eq q) es)) (unique : IsDistinct bytes_eq (keys_of fs)) where
  at_key : lookup (bytes_eq key) fs ≡ Some (length es)
  at_key = put key ∙ ap (λ t. cond t (Some (length es)) (lookup (bytes_eq key) es)) (bytes_eq-itself key)

  at_other : (q : List ℕ) → bytes_eq key q ≡ false → lookup (bytes_eq q) fs ≡ lookup (bytes_eq q) es
  at_other q other = put q ∙ ap (λ t. cond t (Some (length es)) (lookup (bytes_eq q) es)) other

  either : (q : List ℕ) (n : ℕ) → lookup (bytes_eq q) fs ≡ Some n → ((key ≡ q) × (n ≡ length es)) ⊎ (lookup (bytes_eq q) es ≡ Some n)
  either q n stands =
      elim (cases_Bool (bytes_eq key q)) [
        | inl same ↦ inl (bytes_eq-true key q same, ap (λ o. unwrap_or o n) (sym stands ∙ put q ∙ ap (λ t. cond t (Some (length es)) (lookup (bytes_eq q) es)) same))
        | inr other ↦ inr (sym (at_other q other) ∙ stands)
      ]

  new_key : key_of fs (length es) ≡ key
  new_key =
      elim (either _ _ (found fs key (length es) unique at_key)) [
        | inl its ↦ sym its.0
        | inr old ↦ let below = (h.known _ _ old).0 in absurd (omega (arith, below))
      ]

  is_other : (n : ℕ) → n < length es → bytes_eq key (key_of es n) ≡ false
  is_other n below =
      elim (cases_Bool (bytes_eq key (key_of es n))) [
        | inl same ↦ absurd (true≢false (ap is_some (sym (h.each n below) ∙ ap (λ k. lookup (bytes_eq k) es) (sym (bytes_eq-true key (key_of es n) same)) ∙ absent)))
        | inr other ↦ other
      ]

  stays : (n : ℕ) → n < length es → lookup (bytes_eq (key_of es n)) fs ≡ Some n
  stays n below = at_other (key_of es n) (is_other n below) ∙ h.each n below

  kept : (n : ℕ) → n < length es → key_of fs n ≡ key_of es n
  kept n below =
      elim (either _ _ (found fs (key_of es n) n unique (stays n below))) [
        | inl its ↦ let no = its.1 in absurd (omega (arith, below, no))
        | inr old ↦ sym ((h.known _ _ old).1)
      ]

  pub AreNumbers-put : AreNumbers fs
  AreNumbers-put = record {
    known = λ q n stands. elim (either q n stands) [
      | inl its ↦ let its_number = its.1 in (omega (arith, its_number, count), ap (key_of fs) its.1 ∙ new_key ∙ its.0)
      | inr old ↦ let was = h.known q n old in let below = was.0 in (omega (arith, below, count), kept n was.0 ∙ was.1)
    ];
    each = λ n below. elim (cases_lt n (length es)) [
      | inl old ↦ ap (λ k. lookup (bytes_eq k) fs) (kept n old) ∙ stays n old
      | inr past ↦
          let last : n ≡ length es = omega (arith, below, past, count) in
          ap (λ k. lookup (bytes_eq k) fs) (ap (key_of fs) last ∙ new_key) ∙ at_key ∙ ap Some (sym last)
    ];
  }

  pub by_number-put : by_number fs ≡ by_number es ++ key ∷ []
  by_number-put =
      ap (λ n. map (key_of fs) (range_with_len 0 n)) count
      ∙ map-range_with_len_more (key_of fs) 0 (length es) (length es) (omega arith)
      ∙ ap (λ ks. ks ++ key_of fs (length es) ∷ []) (fill_by_all (key_of es) _ (length es) [] (length-map-range_with_len (key_of fs) 0 (length es))
      (λ n below. get_or-map-range_with_len (key_of fs) 0 (length es) n n [] below (omega arith) ∙ kept n below))
      ∙ ap (λ k. by_number es ++ k ∷ []) new_key
