-- The table of copies with stamps
use Rattle.std.proofs.Common.{◌≡◌, ◌≢◌, ◌⊎◌, ℕ, zero, suc, ◌+◌, ◌≤◌, ◌<◌, nat_eq, nat_lt, Bool, true, false, cond, not, List, [], ◌∷◌, length, Option, Some, None, is_some, refl, sym, ap, ◌∙◌, subst, inl, inr, arith, true≢false}
use Rattle.std.specs.Prelude.{if◌then◌else◌, slice_get}
use Rattle.std.proofs.lemmas.Bool.Decides.{nat_tests}
use Rattle.std.specs.FinMap.{empty, get, insert, get-insert, get-empty}
use Rattle.std.specs.Str.{bytes_eq}
use Rattle.std.specs.List.{IsDistinct, AllByRecursion, position_or_len}
use Rattle.std.specs.Map.{keys_of, values_of}
use Rattle.std.proofs.lemmas.Cmp.{nat_list_cmp_total}
use Rattle.indexmap.specs.IndexMap.{insert_entry, set_value_at}
use Rattle.rambo_tag.specs.declared.slot.Slot.{Slot}
use Rattle.rambo_tag.specs.declared.version.Version.{Version}
use Rattle.rambo_tag.specs.Stamps.{stamp_or_zero, AreAtMost}
use Rattle.rambo_tag.specs.Rows.{Slots, slot_in, place_in, copies_of, stamps_of, told_at}
use Rattle.rambo_tag.proofs.Joins.{same_copies, get-put}
use Rattle.rambo_tag.proofs.Keys.{key_cmp, same_key-bytes_eq, bytes_eq-itself, bytes_eq-true}
use Rattle.rambo_tag.proofs.StampLaws.{same_stamps}

-- ---- look-ups
abbrev pub version_of : Option Slot → Option Version
version_of None = None
version_of (Some s) = Some s.version

abbrev pub number_of : Option Slot → Option ℕ
number_of None = None
number_of (Some s) = Some s.number

pub get-copies_of : (t : Slots) (q : List ℕ) → get (copies_of t) q ≡ version_of (slot_in t q)
unfolding copies_of
get-copies_of [] q = get-empty key_cmp q
get-copies_of (e ∷ t) q =
    get-put (copies_of t) e.0 e.1.version q
    ∙ (λ i. cond (same_key-bytes_eq q e.0 i) (Some e.1.version) (get-copies_of t q i))
    ∙ elim (bytes_eq q e.0) as (λ c. cond c (Some e.1.version) (version_of (slot_in t q)) ≡ version_of (cond c (Some e.1) (slot_in t q))) [ true ↦ refl | false ↦ refl ]

pub get-stamps_of : (t : Slots) (q : List ℕ) → get (stamps_of t) q ≡ number_of (slot_in t q)
unfolding stamps_of
get-stamps_of [] q = get-empty key_cmp q
get-stamps_of (e ∷ t) q =
    get-insert nat_list_cmp_total (stamps_of t) e.0 e.1.number q
    ∙ (λ i. cond (same_key-bytes_eq q e.0 i) (Some e.1.number) (get-stamps_of t q i))
    ∙ elim (bytes_eq q e.0) as (λ c. cond c (Some e.1.number) (number_of (slot_in t q)) ≡ number_of (cond c (Some e.1) (slot_in t q))) [ true ↦ refl | false ↦ refl ]

pub copies_of-nil : (t : Slots) → t ≡ [] → copies_of t ≡ empty
unfolding copies_of
copies_of-nil t none = ap copies_of none

pub stamps_of-nil : (t : Slots) → t ≡ [] → stamps_of t ≡ empty
unfolding stamps_of
stamps_of-nil t none = ap stamps_of none

-- ---- places
abbrev pub place_of : Slots → List ℕ → ℕ
place_of t k = position_or_len (bytes_eq k) (keys_of t)

some_or : {A : Type 0} → A → Option A → A
some_or a None = a
some_or a (Some b) = b

pub some_inj : {A : Type 0} (a b : A) → Some a ≡ Some b → a ≡ b
unfolding some_or
some_inj a b e = ap (some_or a) e

is_there : {A : Type 0} → Option A → Bool
is_there None = false
is_there (Some a) = true

pub none-some : {A : Type 0} (a : A) → None ≡ Some a → ⊥
unfolding is_there
none-some a e = true≢false (sym (ap is_there e))

pub same_or_not : (p q : ℕ) → (p ≡ q) ⊎ (p ≢ q)
same_or_not p q = elim (nat_eq p q) as (λ t. nat_eq p q ≡ t → (p ≡ q) ⊎ (p ≢ q)) [
  | true ↦ λ f. inl (yes p q f)
  | false ↦ λ f. inr (no p q f)
] refl
  where
    yes : (p q : ℕ) → nat_eq p q ≡ true → p ≡ q
    yes p q f = grind (arith, nat_tests)

    no : (p q : ℕ) → nat_eq p q ≡ false → p ≢ q
    no p q f e = grind (arith, nat_tests)

one_more : (n : ℕ) → 1 + n ≡ suc n
one_more n = omega (arith)

abbrev IsAt : Slots → Slot → ℕ → Type 0
IsAt u s p = (e : List ℕ × Slot) × (slice_get u p ≡ Some e) × (e.1 ≡ s)

pub at_place : (t : Slots) (k : List ℕ) (s : Slot) → IsAt (insert_entry bytes_eq t k s) s (place_of t k)
at_place [] k s = ((k, s), refl, refl)
at_place (e ∷ t) k s =
    elim (bytes_eq k e.0) as (λ c. (d : List ℕ × Slot) × (slice_get (if c then (e.0, s) ∷ t else e ∷ insert_entry bytes_eq t k s) (cond (not c) (1 + place_of t k) 0) ≡ Some d) × (d.1 ≡ s)) [
      | true ↦ ((e.0, s), refl, refl)
      | false ↦ subst (IsAt (e ∷ insert_entry bytes_eq t k s) s) (sym (one_more (place_of t k))) (at_place t k s)
    ]

pub elsewhere : (t : Slots) (k : List ℕ) (s : Slot) (p : ℕ) → p ≢ place_of t k → slice_get (insert_entry bytes_eq t k s) p ≡ slice_get t p
elsewhere [] k s zero other = absurd (other refl)
elsewhere [] k s (suc p) other = refl
elsewhere (e ∷ t) k s zero other =
    elim (bytes_eq k e.0) as (λ c. 0 ≢ cond (not c) (1 + place_of t k) 0 → slice_get (if c then (e.0, s) ∷ t else e ∷ insert_entry bytes_eq t k s) 0 ≡ Some e) [
      | true ↦ λ o. absurd (o refl)
      | false ↦ λ o. refl
    ] other
elsewhere (e ∷ t) k s (suc p) other =
    elim (bytes_eq k e.0) as (λ c. suc p ≢ cond (not c) (1 + place_of t k) 0 → slice_get (if c then (e.0, s) ∷ t else e ∷ insert_entry bytes_eq t k s) (suc p) ≡ slice_get t p) [
      | true ↦ λ o. refl
      | false ↦ λ o. elsewhere t k s p (λ e. o (ap suc e ∙ sym (one_more (place_of t k))))
    ] other

-- the key's last change was under the same number, so its row is there
pub place_of-slot : (t : Slots) (k : List ℕ) (s : Slot) → slot_in t k ≡ Some s → (e : List ℕ × Slot) × (slice_get t (place_of t k) ≡ Some e) × (e.1 ≡ s)
place_of-slot [] k s f = absurd (none-some s f)
place_of-slot (d ∷ t) k s f =
    elim (bytes_eq k d.0) as (λ c. cond c (Some d.1) (slot_in t k) ≡ Some s → (e : List ℕ × Slot) × (slice_get (d ∷ t) (cond (not c) (1 + place_of t k) 0) ≡ Some e) × (e.1 ≡ s)) [
      | true ↦ λ f. (d, refl, some_inj d.1 s f)
      | false ↦ λ f. subst (IsAt (d ∷ t) s) (sym (one_more (place_of t k))) (place_of-slot t k s f)
    ] f

-- a key stands once
none_other : (q : List ℕ) (k : List ℕ) (t : Slots) → bytes_eq q k ≡ true → AllByRecursion (λ y. bytes_eq k y ≡ false) (keys_of t) → (p : ℕ) (e : List ℕ × Slot) → slice_get t p ≡ Some e → bytes_eq q e.0 ≡ false
none_other q k [] same apart p e f = absurd (none-some e f)
none_other q k (d ∷ t) same apart zero e f = ap (bytes_eq q) (ap (λ x. x.0) (sym (some_inj d e f))) ∙ ap (λ x. bytes_eq x d.0) (bytes_eq-true q k same) ∙ apart.0
none_other q k (d ∷ t) same apart (suc p) e f = none_other q k t same apart.1 p e f

once_more : (d e f : List ℕ × Slot) (t : Slots) (q : ℕ) → AllByRecursion (λ y. bytes_eq d.0 y ≡ false) (keys_of t) → d ≡ e → slice_get t q ≡ Some f → f.0 ≡ e.0 → ⊥
once_more d e f t q apart is there same =
    let key : f.0 ≡ d.0 = same ∙ ap (λ x. x.0) (sym is) in
    true≢false (sym (bytes_eq-itself f.0) ∙ none_other f.0 d.0 t (ap (bytes_eq f.0) (sym key) ∙ bytes_eq-itself f.0) apart q f there)

pub slot_in-at : (t : Slots) (p : ℕ) (e : List ℕ × Slot) → IsDistinct bytes_eq (keys_of t) → slice_get t p ≡ Some e → slot_in t e.0 ≡ Some e.1
unfolding IsDistinct
slot_in-at [] p e distinct f = absurd (none-some e f)
slot_in-at (d ∷ t) zero e distinct f =
    ap (λ x. cond (bytes_eq x.0 d.0) (Some d.1) (slot_in t x.0)) (sym (some_inj d e f))
    ∙ ap (λ c. cond c (Some d.1) (slot_in t d.0)) (bytes_eq-itself d.0) ∙ ap (λ x. Some x.1) (some_inj d e f)
slot_in-at (d ∷ t) (suc p) e distinct f =
    elim (bytes_eq e.0 d.0) as (λ c. bytes_eq e.0 d.0 ≡ c → cond c (Some d.1) (slot_in t e.0) ≡ Some e.1) [
      | true ↦ λ same. absurd (true≢false (sym (bytes_eq-itself e.0) ∙ none_other e.0 d.0 t same distinct.0 p e f))
      | false ↦ λ _. slot_in-at t p e distinct.1 f
    ] refl

pub value_at : (t : Slots) (p : ℕ) (e : List ℕ × Slot) → slice_get t p ≡ Some e → slice_get (values_of t) p ≡ Some e.1
value_at [] p e f = absurd (none-some e f)
value_at (d ∷ t) zero e f = ap (λ x. Some x.1) (some_inj d e f)
value_at (d ∷ t) (suc p) e f = value_at t p e f

pub same_place : (t : Slots) (p q : ℕ) (e f : List ℕ × Slot) → IsDistinct bytes_eq (keys_of t) → slice_get t p ≡ Some e → slice_get t q ≡ Some f → e.0 ≡ f.0 → p ≡ q
unfolding IsDistinct
same_place [] p q e f distinct at there same = absurd (none-some e at)
same_place (d ∷ t) zero zero e f distinct at there same = refl
same_place (d ∷ t) zero (suc q) e f distinct at there same = absurd (once_more d e f t q distinct.0 (some_inj d e at) there (sym same))
same_place (d ∷ t) (suc p) zero e f distinct at there same = absurd (once_more d f e t p distinct.0 (some_inj d f there) at same)
same_place (d ∷ t) (suc p) (suc q) e f distinct at there same = ap suc (same_place t p q e f distinct.1 at there same)

-- and the slot that a key has stands somewhere
pub slot_in-place : (t : Slots) (q : List ℕ) (s : Slot) → slot_in t q ≡ Some s → (p : ℕ) × (e : List ℕ × Slot) × (slice_get t p ≡ Some e) × (e.0 ≡ q) × (e.1 ≡ s)
slot_in-place [] q s f = absurd (none-some s f)
slot_in-place (d ∷ t) q s f =
    elim (bytes_eq q d.0) as (λ c. bytes_eq q d.0 ≡ c → cond c (Some d.1) (slot_in t q) ≡ Some s → (p : ℕ) × (e : List ℕ × Slot) × (slice_get (d ∷ t) p ≡ Some e) × (e.0 ≡ q) × (e.1 ≡ s)) [
      | true ↦ λ same f. (0, d, refl, sym (bytes_eq-true q d.0 same), some_inj d.1 s f)
      | false ↦ λ _ f. let w = slot_in-place t q s f in (suc w.0, w.1, w.2, w.3, w.4)
    ] refl f

-- the place that a search found
found_place : (b : Bool) (p q : ℕ) → Some p ≡ cond b (Some q) None → p ≡ q
found_place true p q e = some_inj p q e
found_place false p q e = absurd (none-some p (sym e))

length-keys : (t : Slots) → length (keys_of t) ≡ length t
length-keys [] = refl
length-keys (e ∷ t) = ap suc (length-keys t)

-- what a place tells of its key
pub slot_at_place : (t : Slots) (k : List ℕ) → slice_get (values_of t) (place_of t k) ≡ slot_in t k
slot_at_place [] k = refl
slot_at_place (d ∷ t) k =
    elim (bytes_eq k d.0) as (λ c. slice_get (d.1 ∷ values_of t) (cond (not c) (1 + place_of t k) 0) ≡ cond c (Some d.1) (slot_in t k)) [
      | true ↦ refl
      | false ↦ ap (slice_get (d.1 ∷ values_of t)) (one_more (place_of t k)) ∙ slot_at_place t k
    ]

first_below : (n : ℕ) → true ≡ nat_lt 0 (suc n)
first_below n = grind (arith, nat_tests)

one_less : (p n : ℕ) → nat_lt p n ≡ nat_lt (1 + p) (suc n)
one_less p n = grind (arith, nat_tests)

has_place : (t : Slots) (k : List ℕ) → is_some (slot_in t k) ≡ nat_lt (place_of t k) (length (keys_of t))
has_place [] k = refl
has_place (d ∷ t) k =
    elim (bytes_eq k d.0) as (λ c. is_some (cond c (Some d.1) (slot_in t k)) ≡ nat_lt (cond (not c) (1 + place_of t k) 0) (suc (length (keys_of t)))) [
      | true ↦ first_below (length (keys_of t))
      | false ↦ has_place t k ∙ one_less (place_of t k) (length (keys_of t))
    ]

pub place_found : (t : Slots) (k : List ℕ) (p : ℕ) → Some p ≡ place_in t k → p ≡ place_of t k
place_found t k p found = found_place _ p (place_of t k) found

pub found_within : (t : Slots) (k : List ℕ) (p : ℕ) → Some p ≡ place_in t k → p < length t
found_within t k p found = subst (λ n. p < n) (length-keys t) (below (place_of t k) (length (keys_of t)) p found)
  where
    below : (q n p : ℕ) → Some p ≡ cond (nat_lt q n) (Some q) None → p < n
    below q n p found = elim (nat_lt q n) as (λ b. nat_lt q n ≡ b → Some p ≡ cond b (Some q) None → p < n) [
      | true ↦ λ h e. less p q n (some_inj p q e) h
      | false ↦ λ h e. absurd (none-some p (sym e))
    ] refl found
      where
        less : (p q n : ℕ) → p ≡ q → nat_lt q n ≡ true → p < n
        less p q n e h = grind (arith, nat_tests)

pub found_slot : (t : Slots) (k : List ℕ) (p : ℕ) → Some p ≡ place_in t k → slice_get (values_of t) p ≡ slot_in t k
found_slot t k p found = ap (slice_get (values_of t)) (place_found t k p found) ∙ slot_at_place t k

pub none_found : (t : Slots) (k : List ℕ) → None ≡ place_in t k → slot_in t k ≡ None
none_found t k none = absent (slot_in t k) (has_place t k ∙ no_place (nat_lt (place_of t k) (length (keys_of t))) (place_of t k) none)
  where
    no_place : (b : Bool) (q : ℕ) → None ≡ cond b (Some q) None → b ≡ false
    no_place true q e = absurd (none-some q e)
    no_place false q e = refl

    absent : (o : Option Slot) → is_some o ≡ false → o ≡ None
    absent None e = refl
    absent (Some s) e = absurd (true≢false e)

-- where no stamp is above a number, no slot's number is
pub numbers_at_most : (t : Slots) (now : ℕ) → IsDistinct bytes_eq (keys_of t) → AreAtMost now (stamps_of t) → (p : ℕ) (e : List ℕ × Slot) → slice_get t p ≡ Some e → e.1.number ≤ now
numbers_at_most t now distinct most p e at =
    subst (λ n. n ≤ now) (ap stamp_or_zero (get-stamps_of t e.0 ∙ ap number_of (slot_in-at t p e distinct at))) (most e.0)

-- ---- a slot was written
slot_in-written : (t : Slots) (k : List ℕ) (s : Slot) (q : List ℕ) → slot_in (insert_entry bytes_eq t k s) q ≡ (if bytes_eq q k then Some s else slot_in t q)
slot_in-written [] k s q = refl
slot_in-written (e ∷ t) k s q =
    elim (bytes_eq k e.0) as (λ c. bytes_eq k e.0 ≡ c
    → slot_in (if c then (e.0, s) ∷ t else e ∷ insert_entry bytes_eq t k s) q ≡ (if bytes_eq q k then Some s else cond (bytes_eq q e.0) (Some e.1) (slot_in t q))) [
      | true ↦ λ same.
          elim (bytes_eq q e.0) as (λ c. bytes_eq q e.0 ≡ c → cond c (Some s) (slot_in t q) ≡ (if bytes_eq q k then Some s else cond c (Some e.1) (slot_in t q))) [
            | true ↦ λ at. sym (ap (λ c. if c then Some s else Some e.1) (ap (bytes_eq q) (bytes_eq-true k e.0 same) ∙ at))
            | false ↦ λ at. sym (ap (λ c. if c then Some s else slot_in t q) (ap (bytes_eq q) (bytes_eq-true k e.0 same) ∙ at))
          ] refl
      | false ↦ λ other.
          elim (bytes_eq q e.0) as (λ c. bytes_eq q e.0 ≡ c → cond c (Some e.1) (slot_in (insert_entry bytes_eq t k s) q) ≡ (if bytes_eq q k then Some s else cond c (Some e.1) (slot_in t q))) [
            | true ↦ λ at. sym (ap (λ c. if c then Some s else Some e.1) (apart q k e.0 at other))
            | false ↦ λ _. slot_in-written t k s q
          ] refl
    ] refl
  where
    apart : (q k d : List ℕ) → bytes_eq q d ≡ true → bytes_eq k d ≡ false → bytes_eq q k ≡ false
    apart q k d at other = elim (bytes_eq q k) as (λ c. bytes_eq q k ≡ c → c ≡ false) [
      | true ↦ λ same. absurd (true≢false (sym at ∙ ap (λ x. bytes_eq x d) (bytes_eq-true q k same) ∙ other))
      | false ↦ λ _. refl
    ] refl

copies_of-written : (t : Slots) (k : List ℕ) (s : Slot) → copies_of (insert_entry bytes_eq t k s) ≡ insert (copies_of t) k s.version
copies_of-written t k s =
    same_copies _ _ (λ q.
    get-copies_of (insert_entry bytes_eq t k s) q
    ∙ ap version_of (slot_in-written t k s q)
    ∙ elim (bytes_eq q k) as (λ c. version_of (if c then Some s else slot_in t q) ≡ cond c (Some s.version) (version_of (slot_in t q))) [ true ↦ refl | false ↦ refl ]
    ∙ sym (get-put (copies_of t) k s.version q ∙ (λ i. cond (same_key-bytes_eq q k i) (Some s.version) (get-copies_of t q i))))

stamps_of-written : (t : Slots) (k : List ℕ) (s : Slot) → stamps_of (insert_entry bytes_eq t k s) ≡ insert (stamps_of t) k s.number
stamps_of-written t k s =
    same_stamps _ _ (λ q.
    get-stamps_of (insert_entry bytes_eq t k s) q
    ∙ ap number_of (slot_in-written t k s q)
    ∙ elim (bytes_eq q k) as (λ c. number_of (if c then Some s else slot_in t q) ≡ cond c (Some s.number) (number_of (slot_in t q))) [ true ↦ refl | false ↦ refl ]
    ∙ sym (get-insert nat_list_cmp_total (stamps_of t) k s.number q ∙ (λ i. cond (same_key-bytes_eq q k i) (Some s.number) (get-stamps_of t q i))))

-- in the place of a key that is there
written_at : (t : Slots) (k : List ℕ) (s o : Slot) → slot_in t k ≡ Some o → set_value_at t (place_of t k) s ≡ insert_entry bytes_eq t k s
written_at [] k s o f = absurd (none-some o f)
written_at (e ∷ t) k s o f =
    elim (bytes_eq k e.0) as (λ c. cond c (Some e.1) (slot_in t k) ≡ Some o → set_value_at (e ∷ t) (cond (not c) (1 + place_of t k) 0) s ≡ (if c then (e.0, s) ∷ t else e ∷ insert_entry bytes_eq t k s)) [
      | true ↦ λ _. refl
      | false ↦ λ f. ap (λ n. set_value_at (e ∷ t) n s) (one_more (place_of t k)) ∙ ap (λ u. e ∷ u) (written_at t k s o f)
    ] f

keys_of-set : (t : Slots) (i : ℕ) (s : Slot) → keys_of (set_value_at t i s) ≡ keys_of t
keys_of-set [] i s = refl
keys_of-set (e ∷ t) zero s = refl
keys_of-set (e ∷ t) (suc i) s = ap (λ ks. e.0 ∷ ks) (keys_of-set t i s)

-- in the place that a look-up found
pub written_over : (t : Slots) (k : List ℕ) (s o : Slot) (p : ℕ) → Some p ≡ place_in t k → slice_get (values_of t) p ≡ Some o → set_value_at t p s ≡ insert_entry bytes_eq t k s
written_over t k s o p found there =
    ap (λ n. set_value_at t n s) (place_found t k p found) ∙ written_at t k s o (sym (found_slot t k p found) ∙ there)

pub length-set : (t : Slots) (i : ℕ) (s : Slot) → length (set_value_at t i s) ≡ length t
length-set [] i s = refl
length-set (e ∷ t) zero s = refl
length-set (e ∷ t) (suc i) s = ap suc (length-set t i s)

pub keys_apart : (t : Slots) (p : ℕ) (s : Slot) → IsDistinct bytes_eq (keys_of t) → IsDistinct bytes_eq (keys_of (set_value_at t p s))
keys_apart t p s distinct = subst (IsDistinct bytes_eq) (sym (keys_of-set t p s)) distinct

-- so are its copies, its stamps, and what changed under a number
pub written-copies : (t u : Slots) (k : List ℕ) (s : Slot) → u ≡ insert_entry bytes_eq t k s → copies_of u ≡ insert (copies_of t) k s.version
written-copies t u k s is = ap copies_of is ∙ copies_of-written t k s

pub written-stamps : (t u : Slots) (k : List ℕ) (s : Slot) → u ≡ insert_entry bytes_eq t k s → stamps_of u ≡ insert (stamps_of t) k s.number
written-stamps t u k s is = ap stamps_of is ∙ stamps_of-written t k s

told_yes : (a b : ℕ) → a ≡ b → nat_eq a b ≡ true
told_yes a b e = grind (arith, nat_tests)

told_no : (a b : ℕ) → a ≢ b → nat_eq a b ≡ false
told_no a b e = grind (arith, nat_tests)

pub written-told : (t u : Slots) (k : List ℕ) (s : Slot) → u ≡ insert_entry bytes_eq t k s
    → (q : List ℕ) → told_at s.number (slot_in u q) ≡ (if bytes_eq q k then true else told_at s.number (slot_in t q))
written-told t u k s is q =
    ap (λ u. told_at s.number (slot_in u q)) is
    ∙ ap (told_at s.number) (slot_in-written t k s q)
    ∙ elim (bytes_eq q k) as (λ c. told_at s.number (if c then Some s else slot_in t q) ≡ (if c then true else told_at s.number (slot_in t q))) [
      | true ↦ told_yes s.number s.number refl
      | false ↦ refl
    ]

-- whether the key's last change was under a number, by what a look-up found
pub found_told : (t : Slots) (k : List ℕ) (o : Slot) (p now : ℕ) → Some p ≡ place_in t k → slice_get (values_of t) p ≡ Some o → o.number ≡ now → told_at now (slot_in t k) ≡ true
found_told t k o p now found there same = ap (told_at now) (sym (found_slot t k p found) ∙ there) ∙ told_yes o.number now same

pub found_not_told : (t : Slots) (k : List ℕ) (o : Slot) (p now : ℕ) → Some p ≡ place_in t k → slice_get (values_of t) p ≡ Some o → o.number ≢ now → told_at now (slot_in t k) ≡ false
found_not_told t k o p now found there other = ap (told_at now) (sym (found_slot t k p found) ∙ there) ∙ told_no o.number now other

pub none_told : (t : Slots) (k : List ℕ) (now : ℕ) → None ≡ place_in t k → told_at now (slot_in t k) ≡ false
none_told t k now none = ap (told_at now) (none_found t k none)
