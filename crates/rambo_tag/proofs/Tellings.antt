-- What is told of the changes since a base
use Rattle.std.proofs.Common.{◌≡◌, ◌≢◌, ◌⊎◌, ℕ, ◌+◌, ◌≤◌, ◌<◌, nat_le, true, false, cond, List, [], ◌∷◌, ◌++◌, length, Option, Some, None, refl, sym, ap, ◌∙◌, subst, inl, inr, arith, true≢false}
use Rattle.std.specs.Prelude.{if◌then◌else◌, slice_get}
use Rattle.std.proofs.lemmas.Bool.Decides.{nat_tests}
use Rattle.std.specs.FinMap.{get, get-empty}
use Rattle.std.specs.Str.{bytes_eq}
use Rattle.std.specs.List.{IsDistinct}
use Rattle.std.specs.Map.{keys_of}
use Rattle.rambo_tag.specs.declared.slot.Slot.{Slot}
use Rattle.rambo_tag.specs.declared.slot.Row.{Row}
use Rattle.rambo_tag.specs.declared.version.Version.{Version}
use Rattle.rambo_tag.specs.declared.keyed_version.KeyedVersion.{KeyedVersion}
use Rattle.rambo_tag.specs.Tags.{is_newer, greater}
use Rattle.rambo_tag.specs.Logs.{greatest_of}
use Rattle.rambo_tag.specs.Stamps.{stamp_or_zero, IsSince}
use Rattle.rambo_tag.specs.Rows.{Slots, slot_in, copies_of, stamps_of, IsLogOf}
use Rattle.rambo_tag.proofs.Joins.{get-with_newer}
use Rattle.rambo_tag.proofs.Logged.{greatest_of-push, greatest_of-nil}
use Rattle.rambo_tag.proofs.Keys.{key_cmp, same_key, same_key-true, same_key-itself}
use Rattle.rambo_tag.proofs.Slots.{version_of, number_of, get-copies_of, get-stamps_of, some_inj, none-some, same_or_not, slot_in-at, slot_in-place}
use Rattle.rambo_tag.proofs.Rows.{within}

pub record Tells (t : Slots) (log : List Row) (left : ℕ) (base : ℕ) (out : List KeyedVersion) : Type 0 where
  pub part : (q : List ℕ) (v : Version) → get (greatest_of out) q ≡ Some v → (s : Slot) × (slot_in t q ≡ Some s) × (s.version ≡ v) × (base ≤ s.number)
  pub all : (i : ℕ) (r : Row) (e : List ℕ × Slot) → left ≤ i → slice_get log i ≡ Some r → slice_get t r.place ≡ Some e → e.1.number ≡ r.number → get (greatest_of out) e.0 ≡ Some e.1.version

pub Tells-start : (t : Slots) (log : List Row) (left base : ℕ) (out : List KeyedVersion) → left ≡ length log → out ≡ [] → Tells t log left base out
Tells-start t log left base out end none = record {
  part = λ q v e. absurd (none-some v (sym (ap (λ o. get (greatest_of o) q) none ∙ ap (λ m. get m q) greatest_of-nil ∙ get-empty key_cmp q) ∙ e));
  all = λ i r e past f g n. absurd (too_far i left (length log) past end (within log i r f));
}
  where
    too_far : (i l n : ℕ) → l ≤ i → l ≡ n → i < n → ⊥
    too_far i l n h e f = omega (arith, h, e, f)

-- a row that tells of an earlier change is passed over
pub Tells-stale : (t : Slots) (log : List Row) (left base : ℕ) (out : List KeyedVersion) (r : Row) (e : List ℕ × Slot) → Tells t log (left + 1) base out → slice_get log left ≡ Some r
    → slice_get t r.place ≡ Some e → e.1.number ≢ r.number → Tells t log left base out
Tells-stale t log left base out r e h at there stale = record {
  part = h.part;
  all = λ i x f past is has n. elim (same_or_not i left) [
    | inl same ↦ absurd (stale (this i x f same is has n))
    | inr other ↦ h.all i x f (later i left past other) is has n
  ];
}
  where
    later : (i l : ℕ) → l ≤ i → i ≢ l → l + 1 ≤ i
    later i l h e = grind (arith, nat_tests)

    this : (i : ℕ) (x : Row) (f : List ℕ × Slot) → i ≡ left → slice_get log i ≡ Some x → slice_get t x.place ≡ Some f → f.1.number ≡ x.number → e.1.number ≡ r.number
    this i x f same is has n =
        let x-r = some_inj x r (sym is ∙ ap (slice_get log) same ∙ at) in
        let f-e = some_inj f e (sym has ∙ ap (λ y. slice_get t y.place) x-r ∙ there) in
        ap (λ y. y.1.number) (sym f-e) ∙ n ∙ ap (λ y. y.number) x-r

-- a row that tells of a key's last change
pub Tells-fresh : (t : Slots) (log : List Row) (left base : ℕ) (out more : List KeyedVersion) (r : Row) (e : List ℕ × Slot) (c : KeyedVersion) → IsDistinct bytes_eq (keys_of t)
    → Tells t log (left + 1) base out → slice_get log left ≡ Some r → slice_get t r.place ≡ Some e → base ≤ e.1.number → c.key ≡ e.0 → c.version ≡ e.1.version → more ≡ out ++ c ∷ []
    → Tells t log left base more
Tells-fresh t log left base out more r e c distinct h at there late key version grows = record { part = part; all = all }
  where
    held : slot_in t e.0 ≡ Some e.1
    held = slot_in-at t r.place e distinct there

    -- what was told of the key before is its copy
    before : (o : Option Version) → get (greatest_of out) e.0 ≡ o → greater o (Some e.1.version) ≡ Some e.1.version
    before None f = refl
    before (Some v) f =
        let w = h.part e.0 v f in
        let same : v ≡ e.1.version = sym w.2 ∙ ap (λ s. s.version) (some_inj w.0 e.1 (sym w.1 ∙ held)) in
        elim (is_newer (Some v) e.1.version) as (λ b. (if b then Some e.1.version else Some v) ≡ Some e.1.version) [ true ↦ refl | false ↦ ap Some same ]

    told : (q : List ℕ) → get (greatest_of more) q ≡ cond (same_key q e.0) (Some e.1.version) (get (greatest_of out) q)
    told q =
        ap (λ o. get (greatest_of o) q) grows ∙ ap (λ m. get m q) (greatest_of-push out c) ∙ get-with_newer (greatest_of out) c.key c.version q
        ∙ (λ i. cond (same_key q (key i)) (greater (get (greatest_of out) q) (Some (version i))) (get (greatest_of out) q))
        ∙ elim (same_key q e.0) as (λ b. same_key q e.0 ≡ b → cond b (greater (get (greatest_of out) q) (Some e.1.version)) (get (greatest_of out) q) ≡ cond b (Some e.1.version) (get (greatest_of out) q)) [
          | true ↦ λ f. before (get (greatest_of out) q) (ap (get (greatest_of out)) (sym (same_key-true q e.0 f)))
          | false ↦ λ _. refl
        ] refl

    part : (q : List ℕ) (v : Version) → get (greatest_of more) q ≡ Some v → (s : Slot) × (slot_in t q ≡ Some s) × (s.version ≡ v) × (base ≤ s.number)
    part q v f =
        elim (same_key q e.0) as (λ b. same_key q e.0 ≡ b → cond b (Some e.1.version) (get (greatest_of out) q) ≡ Some v → (s : Slot) × (slot_in t q ≡ Some s) × (s.version ≡ v) × (base ≤ s.number)) [
          | true ↦ λ same g. (e.1, ap (slot_in t) (same_key-true q e.0 same) ∙ held, some_inj e.1.version v g, late)
          | false ↦ λ _ g. h.part q v g
        ] refl (sym (told q) ∙ f)

    later : (i l : ℕ) → l ≤ i → i ≢ l → l + 1 ≤ i
    later i l h e = grind (arith, nat_tests)

    here : (f : List ℕ × Slot) → f ≡ e → get (greatest_of more) f.0 ≡ Some f.1.version
    here f same =
        told f.0 ∙ ap (λ x. cond (same_key x.0 e.0) (Some e.1.version) (get (greatest_of out) x.0)) same
        ∙ ap (λ b. cond b (Some e.1.version) (get (greatest_of out) e.0)) (same_key-itself e.0) ∙ ap (λ x. Some x.1.version) (sym same)

    there_too : (f : List ℕ × Slot) (p : ℕ) → slice_get t p ≡ Some f → get (greatest_of out) f.0 ≡ Some f.1.version → get (greatest_of more) f.0 ≡ Some f.1.version
    there_too f p has old =
        told f.0
        ∙ elim (same_key f.0 e.0) as (λ b. same_key f.0 e.0 ≡ b → cond b (Some e.1.version) (get (greatest_of out) f.0) ≡ Some f.1.version) [
          | true ↦ λ same. ap (λ s. Some s.version) (some_inj e.1 f.1 (sym held ∙ ap (slot_in t) (sym (same_key-true f.0 e.0 same)) ∙ slot_in-at t p f distinct has))
          | false ↦ λ _. old
        ] refl

    all : (i : ℕ) (x : Row) (f : List ℕ × Slot) → left ≤ i → slice_get log i ≡ Some x → slice_get t x.place ≡ Some f → f.1.number ≡ x.number → get (greatest_of more) f.0 ≡ Some f.1.version
    all i x f past is has n = elim (same_or_not i left) [
      | inl same ↦ here f (some_inj f e (sym has ∙ ap (λ y. slice_get t y.place) (some_inj x r (sym is ∙ ap (slice_get log) same ∙ at)) ∙ there))
      | inr other ↦ there_too f x.place has (h.all i x f (later i left past other) is has n)
    ]

-- all rows since a number were gone through
pub Tells-end : (t : Slots) (log : List Row) (left base : ℕ) (out : List KeyedVersion) → IsLogOf t log → Tells t log left base out
    → ((i : ℕ) (r : Row) → i < left → slice_get log i ≡ Some r → r.number < base) → IsSince (copies_of t) (stamps_of t) base (greatest_of out)
Tells-end t log left base out indexed h older q =
    since (get (greatest_of out) q) (slot_in t q) refl refl
    ∙ sym (λ i. if nat_le base (stamp_or_zero (get-stamps_of t q i)) then get-copies_of t q i else None)
  where
    le_test : (a b : ℕ) → a ≤ b → nat_le a b ≡ true
    le_test a b h = grind (arith, nat_tests)

    late_or_not : (a b : ℕ) → (a ≤ b) ⊎ (nat_le a b ≡ false)
    late_or_not a b = elim (nat_le a b) as (λ t. nat_le a b ≡ t → (a ≤ b) ⊎ (t ≡ false)) [ true ↦ λ f. inl (le a b f) | false ↦ λ f. inr refl ] refl
      where
        le : (a b : ℕ) → nat_le a b ≡ true → a ≤ b
        le a b f = grind (arith, nat_tests)

    clash : (a b : ℕ) → a ≤ b → b < a → ⊥
    clash a b h i = omega (arith, h, i)

    low : (i l : ℕ) → (i < l → ⊥) → l ≤ i
    low i l f = grind (arith, nat_tests)

    -- a key with a late stamp was told
    told : (s : Slot) → slot_in t q ≡ Some s → base ≤ s.number → get (greatest_of out) q ≡ Some s.version
    told s f late =
        let w = slot_in-place t q s f in
        let r = indexed.all w.0 w.1 w.2 in
        let n : base ≤ w.1.1.number = subst (λ x. base ≤ x.number) (sym w.4) late in
        ap (get (greatest_of out)) (sym w.3)
        ∙ h.all r.0 (record { place = w.0; number = w.1.1.number }) w.1 (low r.0 left (λ b. clash base w.1.1.number n (older r.0 (record { place = w.0; number = w.1.1.number }) b r.1))) r.1 w.2 refl
        ∙ ap (λ x. Some x.version) w.4

    since : (o : Option Version) (x : Option Slot) → get (greatest_of out) q ≡ o → slot_in t q ≡ x → get (greatest_of out) q ≡ (if nat_le base (stamp_or_zero (number_of x)) then version_of x else None)
    since None None f g = f ∙ elim (nat_le base 0) as (λ b. None ≡ (if b then version_of None else None)) [ true ↦ refl | false ↦ refl ]
    since (Some v) None f g = let w = h.part q v f in absurd (none-some w.0 (sym g ∙ w.1))
    since o (Some s) f g = elim (late_or_not base s.number) [
      | inl late ↦ told s g late ∙ sym (ap (λ b. if b then Some s.version else None) (le_test base s.number late))
      | inr early ↦ none o f s g early ∙ sym (ap (λ b. if b then Some s.version else None) early)
    ]
      where
        none : (o : Option Version) → get (greatest_of out) q ≡ o → (s : Slot) → slot_in t q ≡ Some s → nat_le base s.number ≡ false → get (greatest_of out) q ≡ None
        none None f s g early = f
        none (Some v) f s g early =
            let w = h.part q v f in
            absurd (true≢false (sym (le_test base s.number (subst (λ x. base ≤ x.number) (some_inj w.0 s (sym w.1 ∙ g)) w.3)) ∙ early))
