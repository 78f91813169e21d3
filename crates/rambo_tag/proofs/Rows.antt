-- The log of the changes of a table
use Rattle.std.proofs.Common.{◌≡◌, ◌≢◌, ◌⊎◌, ℕ, zero, suc, ◌-◌, ◌≤◌, ◌<◌, nat_eq, true, false, List, [], ◌∷◌, ◌++◌, length, get_or, AllPairs, Option, Some, None, refl, sym, ap, ◌∙◌, subst, inl, inr, arith, true≢false}
use Rattle.std.specs.Prelude.{slice_get}
use Rattle.std.proofs.lemmas.Bool.Decides.{nat_tests}
use Rattle.std.proofs.lemmas.List.Quantifiers.{all_pairs_push}
use Rattle.std.proofs.lemmas.Option.{slice_get-get_or}
use Rattle.std.specs.Str.{bytes_eq}
use Rattle.indexmap.specs.IndexMap.{insert_entry}
use Rattle.rambo_tag.specs.declared.slot.Slot.{Slot}
use Rattle.rambo_tag.specs.declared.slot.Row.{Row}
use Rattle.rambo_tag.specs.Stamps.{AreAtMost}
use Rattle.rambo_tag.specs.Rows.{Slots, slot_in, stamps_of, IsLogOf, IsIndexed, told_at}
use Rattle.rambo_tag.proofs.Slots.{some_inj, none-some, same_or_not, place_of, value_at, slot_at_place, at_place, elsewhere, place_of-slot, numbers_at_most}

get-push_old : {A : Type 0} (xs : List A) (x : A) (i : ℕ) (r : A) → slice_get xs i ≡ Some r → slice_get (xs ++ x ∷ []) i ≡ Some r
get-push_old [] x i r e = absurd (none-some r e)
get-push_old (y ∷ xs) x zero r e = e
get-push_old (y ∷ xs) x (suc i) r e = get-push_old xs x i r e

get-push_new : {A : Type 0} (xs : List A) (x : A) → slice_get (xs ++ x ∷ []) (length xs) ≡ Some x
get-push_new [] x = refl
get-push_new (y ∷ xs) x = get-push_new xs x

get-push : {A : Type 0} (xs : List A) (x : A) (i : ℕ) (r : A) → slice_get (xs ++ x ∷ []) i ≡ Some r → (slice_get xs i ≡ Some r) ⊎ ((i ≡ length xs) × (x ≡ r))
get-push [] x zero r e = inr (refl, some_inj x r e)
get-push [] x (suc i) r e = absurd (none-some r e)
get-push (y ∷ xs) x zero r e = inl e
get-push (y ∷ xs) x (suc i) r e = elim (get-push xs x i r e) [ inl o ↦ inl o | inr n ↦ inr (ap suc n.0, n.1) ]

pub within : {A : Type 0} (xs : List A) (i : ℕ) (r : A) → slice_get xs i ≡ Some r → i < length xs
within [] i r e = absurd (none-some r e)
within (y ∷ xs) zero r e = omega (arith)
within (y ∷ xs) (suc i) r e = let h = within xs i r e in omega (arith, h)

logged-written : (t : Slots) (log : List Row) (k : List ℕ) (s : Slot) → IsLogOf t log → ((p : ℕ) (e : List ℕ × Slot) → slice_get t p ≡ Some e → e.1.number ≤ s.number)
    → told_at s.number (slot_in t k) ≡ false → IsLogOf (insert_entry bytes_eq t k s) (log ++ record { place = place_of t k; number = s.number } ∷ [])
logged-written t log k s h late fresh = record { each = each; all = all; rising = rising; once = once }
  where
    reflexive : (n : ℕ) → n ≤ n
    reflexive n = omega (arith)

    le-trans : (a b c : ℕ) → a ≤ b → b ≤ c → a ≤ c
    le-trans a b c h i = omega (arith, h, i)

    here : (r : Row) → r.place ≡ place_of t k → r.number ≤ s.number → (e : List ℕ × Slot) × (slice_get (insert_entry bytes_eq t k s) r.place ≡ Some e) × (r.number ≤ e.1.number)
    here r p n = let w = at_place t k s in (w.0, ap (slice_get (insert_entry bytes_eq t k s)) p ∙ w.1, subst (λ x. r.number ≤ x.number) (sym w.2) n)

    old : (r : Row) → (e : List ℕ × Slot) × (slice_get t r.place ≡ Some e) × (r.number ≤ e.1.number) → (e : List ℕ × Slot) × (slice_get (insert_entry bytes_eq t k s) r.place ≡ Some e) × (r.number ≤ e.1.number)
    old r w = elim (same_or_not r.place (place_of t k)) [
      | inl same ↦ here r same (le-trans r.number w.0.1.number s.number w.2 (late r.place w.0 w.1))
      | inr other ↦ (w.0, elsewhere t k s r.place other ∙ w.1, w.2)
    ]

    each : (i : ℕ) (r : Row) → slice_get (log ++ record { place = place_of t k; number = s.number } ∷ []) i ≡ Some r → (e : List ℕ × Slot) × (slice_get (insert_entry bytes_eq t k s) r.place ≡ Some e) × (r.number ≤ e.1.number)
    each i r e = elim (get-push log (record { place = place_of t k; number = s.number }) i r e) [
      | inl o ↦ old r (h.each i r o)
      | inr n ↦ here r (sym (ap (λ r. r.place) n.1)) (subst (λ n. n ≤ s.number) (ap (λ r. r.number) n.1) (reflexive s.number))
    ]

    all : (p : ℕ) (e : List ℕ × Slot) → slice_get (insert_entry bytes_eq t k s) p ≡ Some e
        → (i : ℕ) × (slice_get (log ++ record { place = place_of t k; number = s.number } ∷ []) i ≡ Some (record { place = p; number = e.1.number }))
    all p e f = elim (same_or_not p (place_of t k)) [
      | inl same ↦
          let w = at_place t k s in
          let n : s.number ≡ e.1.number = ap (λ x. x.number) (sym w.2) ∙ ap (λ e. e.1.number) (some_inj w.0 e (sym w.1 ∙ ap (slice_get (insert_entry bytes_eq t k s)) (sym same) ∙ f)) in
          (length log, get-push_new log (record { place = place_of t k; number = s.number }) ∙ (λ i. Some (record { place = sym same i; number = n i })))
      | inr other ↦ let w = h.all p e (sym (elsewhere t k s p other) ∙ f) in (w.0, get-push_old log (record { place = place_of t k; number = s.number }) w.0 (record { place = p; number = e.1.number }) w.1)
    ]

    rising : (i j : ℕ) (a b : Row) → i ≤ j → slice_get (log ++ record { place = place_of t k; number = s.number } ∷ []) i ≡ Some a
        → slice_get (log ++ record { place = place_of t k; number = s.number } ∷ []) j ≡ Some b → a.number ≤ b.number
    rising i j a b below e f = elim (get-push log (record { place = place_of t k; number = s.number }) i a e) [
      | inl o ↦ elim (get-push log (record { place = place_of t k; number = s.number }) j b f) [
        | inl q ↦ h.rising i j a b below o q
        | inr n ↦
            let w = h.each i a o in
            subst (λ n. a.number ≤ n) (ap (λ r. r.number) n.1) (le-trans a.number w.0.1.number s.number w.2 (late a.place w.0 w.1))
      ]
      | inr m ↦ elim (get-push log (record { place = place_of t k; number = s.number }) j b f) [
        | inl q ↦ absurd (past i j (length log) below m.0 (within log j b q))
        | inr n ↦ subst (λ n. a.number ≤ n) (ap (λ r. r.number) (sym m.1 ∙ n.1)) (reflexive a.number)
      ]
    ]
      where
        past : (i j l : ℕ) → i ≤ j → i ≡ l → j < l → ⊥
        past i j l h e f = omega (arith, h, e, f)

    -- the key's last change was under a lesser number
    apart : (r : Row) → (e : List ℕ × Slot) × (slice_get t r.place ≡ Some e) × (r.number ≤ e.1.number) → r ≡ record { place = place_of t k; number = s.number } → ⊥
    apart r w same =
        let at : slice_get t (place_of t k) ≡ Some w.0 = ap (λ x. slice_get t x.place) (sym same) ∙ w.1 in
        let told = ap (told_at s.number) (sym (slot_at_place t k) ∙ value_at t (place_of t k) w.0 at) ∙ is_told w.0.1.number r.number s.number w.2 (ap (λ x. x.number) same) (late (place_of t k) w.0 at) in
        true≢false (sym told ∙ fresh)
      where
        is_told : (a r s : ℕ) → r ≤ a → r ≡ s → a ≤ s → nat_eq a s ≡ true
        is_told a r s h e i = grind (arith, nat_tests)

    once : AllPairs (λ a b. a ≢ b) (log ++ record { place = place_of t k; number = s.number } ∷ [])
    once = all_pairs_push (λ a b. a ≢ b) log (record { place = place_of t k; number = s.number }) h.once (λ i d inside. apart (get_or log i d) (h.each i (get_or log i d) (slice_get-get_or log i d inside)))

logged-again : (t : Slots) (log : List Row) (k : List ℕ) (s : Slot) (now : ℕ) → IsLogOf t log → told_at now (slot_in t k) ≡ true → s.number ≡ now → IsLogOf (insert_entry bytes_eq t k s) log
logged-again t log k s now h told is = go (slot_in t k) refl told
  where
    number : (o : Slot) → told_at now (Some o) ≡ true → o.number ≡ s.number
    number o f = same o.number now f ∙ sym is
      where
        same : (a b : ℕ) → nat_eq a b ≡ true → a ≡ b
        same a b f = grind (arith, nat_tests)

    low : (a b c : ℕ) → a ≤ b → b ≡ c → a ≤ c
    low a b c h e = omega (arith, h, e)

    go : (o : Option Slot) → slot_in t k ≡ o → told_at now o ≡ true → IsLogOf (insert_entry bytes_eq t k s) log
    go None f told = absurd (true≢false (sym told))
    go (Some o) f told = record { each = each; all = all; rising = h.rising; once = h.once }
      where
        each : (i : ℕ) (r : Row) → slice_get log i ≡ Some r → (e : List ℕ × Slot) × (slice_get (insert_entry bytes_eq t k s) r.place ≡ Some e) × (r.number ≤ e.1.number)
        each i r f1 =
            let w = h.each i r f1 in
            elim (same_or_not r.place (place_of t k)) [
              | inl here ↦
                  let a = at_place t k s in
                  let b = place_of-slot t k o f in (
                    a.0,
                    ap (slice_get (insert_entry bytes_eq t k s)) here ∙ a.1,
                    low r.number w.0.1.number a.0.1.number w.2
                        (ap (λ e. e.1.number) (some_inj w.0 b.0 (sym w.1 ∙ ap (slice_get t) here ∙ b.1)) ∙ ap (λ x. x.number) b.2 ∙ number o told ∙ ap (λ x. x.number) (sym a.2)),
                  )
              | inr other ↦ (w.0, elsewhere t k s r.place other ∙ w.1, w.2)
            ]

        all : (p : ℕ) (e : List ℕ × Slot) → slice_get (insert_entry bytes_eq t k s) p ≡ Some e → (i : ℕ) × (slice_get log i ≡ Some (record { place = p; number = e.1.number }))
        all p e g = elim (same_or_not p (place_of t k)) [
          | inl here ↦
              let a = at_place t k s in
              let b = place_of-slot t k o f in
              let w = h.all (place_of t k) b.0 b.1 in
              let n : b.0.1.number ≡ e.1.number = ap (λ x. x.number) b.2 ∙ number o told ∙ ap (λ x. x.number) (sym a.2)
              ∙ ap (λ e. e.1.number) (some_inj a.0 e (sym a.1 ∙ ap (slice_get (insert_entry bytes_eq t k s)) (sym here) ∙ g)) in
              (w.0, w.1 ∙ (λ i. Some (record { place = sym here i; number = n i })))
          | inr other ↦ h.all p e (sym (elsewhere t k s p other) ∙ g)
        ]

-- a slot was written, and a row for it
pub written-row : (t u : Slots) (log : List Row) (k : List ℕ) (s : Slot) (p : ℕ) → IsIndexed t log → AreAtMost s.number (stamps_of t) → told_at s.number (slot_in t k) ≡ false
    → u ≡ insert_entry bytes_eq t k s → p ≡ place_of t k → IsLogOf u (log ++ record { place = p; number = s.number } ∷ [])
written-row t u log k s p h late fresh is at =
    let row = logged-written t log k s h.logged (numbers_at_most t s.number h.distinct late) fresh in
    subst (λ n. IsLogOf u (log ++ record { place = n; number = s.number } ∷ [])) (sym at) (subst (λ u. IsLogOf u (log ++ record { place = place_of t k; number = s.number } ∷ [])) (sym is) row)

-- the row of the key's last change serves, where that was under the same number
pub written-again : (t u : Slots) (log : List Row) (k : List ℕ) (s : Slot) → IsLogOf t log → told_at s.number (slot_in t k) ≡ true → u ≡ insert_entry bytes_eq t k s → IsLogOf u log
written-again t u log k s h told is = subst (λ u. IsLogOf u log) (sym is) (logged-again t log k s s.number h told refl)

-- the rows before one that is older than a number are so too
pub older_all : (t : Slots) (log : List Row) (left base : ℕ) (r : Row) → IsLogOf t log → 0 < left → slice_get log (left - 1) ≡ Some r → r.number < base
    → (i : ℕ) (x : Row) → i < left → slice_get log i ≡ Some x → x.number < base
older_all t log left base r h some at old i x below is = let up = h.rising i (left - 1) x r (omega (arith, some, below)) is at in omega (arith, up, old)
