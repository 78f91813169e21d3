-- The laws of stamps
use Rattle.std.proofs.Common.{◌≡◌, ◌≢◌, ◌⊎◌, ℕ, ◌≤◌, ◌<◌, nat_le, Bool, true, false, cond, List, [], ◌∷◌, Option, Some, None, refl, sym, ap, ◌∙◌, subst, inl, inr, T, arith, true≢false}
use Rattle.std.specs.Prelude.{if◌then◌else◌}
use Rattle.std.proofs.lemmas.Bool.Decides.{nat_tests}
use Rattle.std.specs.FinMap.{get, insert, entries, find, is_sorted, entries_sorted, get-entries, get-insert, empty, get-empty, same_map, slice_cmp-IsAntisymmetric, nat_cmp-IsAntisymmetric}
use Rattle.std.proofs.lemmas.Cmp.{nat_list_cmp_total}
use Rattle.rambo_tag.specs.declared.version.Version.{Version}
use Rattle.rambo_tag.specs.Tags.{is_newer, greater}
use Rattle.rambo_tag.specs.Copies.{Copies, joined}
use Rattle.rambo_tag.proofs.CopyOrder.{is_below-irrefl, is_newer-is_below}
use Rattle.rambo_tag.proofs.Joins.{same_copies, get-joined, first, second, below_none}
use Rattle.rambo_tag.proofs.Keys.{key_cmp, same_key, same_key-true}
use Rattle.rambo_tag.specs.Stamps.{Stamps, stamp_at, stamp_or_zero, AreAtMost, AreStampedAlike, stamped, stamps_merged, SinceIsEnough, AllSinceZero, MergesAreStamped, IsShort, ShortIsAlike}

pub pick : {A : Type 0} (b : Bool) (x y : A) → ((b ≡ true) × ((if b then x else y) ≡ x)) ⊎ ((b ≡ false) × ((if b then x else y) ≡ y))
pick true x y = inl (refl, refl)
pick false x y = inr (refl, refl)

pub same_stamps : (a b : Stamps) → ((key : List ℕ) → get a key ≡ get b key) → a ≡ b
same_stamps a b h = same_map nat_list_cmp_total (slice_cmp-IsAntisymmetric nat_cmp-IsAntisymmetric) a b h

-- the greater of what is held and of a copy that isn't newer
held_on : (o : Option Version) (c : Option Version) → ((v : Version) → c ≡ Some v → is_newer o v ≡ false) → greater o c ≡ o
held_on o None f = refl
held_on o (Some v) f = ap (λ t. if t then Some v else o) (f v refl)

at_least_zero : (n : ℕ) → nat_le 0 n ≡ true
at_least_zero n = grind (arith, nat_tests)

below_base : (base n : ℕ) → nat_le base n ≡ false → n < base
below_base base n e = grind (arith, nat_tests)

pub since_is_enough : SinceIsEnough
since_is_enough held p r s base since holds =
    same_copies _ _ (λ q. get-joined r p q ∙ step q (pick (nat_le base (stamp_at s q)) (get held q) None) ∙ sym (get-joined r held q))
  where
    step : (q : List ℕ) → ((nat_le base (stamp_at s q) ≡ true) × ((if nat_le base (stamp_at s q) then get held q else None) ≡ get held q)) ⊎ ((nat_le base (stamp_at s q) ≡ false) × ((if nat_le base (stamp_at s q) then get held q else None) ≡ None))
        → greater (get r q) (get p q) ≡ greater (get r q) (get held q)
    step q (inl t) = ap (greater (get r q)) (since q ∙ t.1)
    step q (inr t) = ap (greater (get r q)) (since q ∙ t.1) ∙ sym (held_on (get r q) (get held q) (λ v e. holds q v e (below_base base (stamp_at s q) t.0)))

pub all_since_zero : AllSinceZero
all_since_zero held p s since = same_copies p held (λ q. since q ∙ ap (λ t. if t then get held q else None) (at_least_zero (stamp_at s q)))

-- ---- the stamp of a key after a list of copies
-- what a copy that comes, if one does, makes of a stamp
abbrev pub stamp_after : ℕ → Option Version → Option ℕ → Option Version → Option ℕ
stamp_after now held s None = s
stamp_after now held s (Some v) = if is_newer held v then Some now else s

pub put_if : (t : Bool) (s : Stamps) (key : List ℕ) (now : ℕ) (q : List ℕ) → get (if t then insert s key now else s) q ≡ cond (same_key q key) (if t then Some now else get s q) (get s q)
put_if true s key now q = get-insert nat_list_cmp_total s key now q
put_if false s key now q = elim (same_key q key) as (λ c. get s q ≡ cond c (get s q) (get s q)) [ true ↦ refl | false ↦ refl ]

get-stamped : (now : ℕ) (held : Copies) (es : List (List ℕ × Version)) (s : Stamps) (q : List ℕ) → T (is_sorted key_cmp es)
    → get (stamped now held s es) q ≡ stamp_after now (get held q) (get s q) (find key_cmp q es)
get-stamped now held [] s q h = refl
get-stamped now held (e ∷ es) s q h =
    get-stamped now held es (if is_newer (get held e.0) e.1 then insert s e.0 now else s) q (second _ _ h)
    ∙ ap (λ o. stamp_after now (get held q) o (find key_cmp q es)) (put_if (is_newer (get held e.0) e.1) s e.0 now q)
    ∙ elim (same_key q e.0) as (λ c. same_key q e.0 ≡ c
    → stamp_after now (get held q) (cond c (if is_newer (get held e.0) e.1 then Some now else get s q) (get s q)) (find key_cmp q es) ≡ stamp_after now (get held q) (get s q) (cond c (Some e.1) (find key_cmp q es))) [
      | true ↦ λ tie.
          ap (stamp_after now (get held q) (if is_newer (get held e.0) e.1 then Some now else get s q)) (ap (λ k. find key_cmp k es) (same_key-true q e.0 tie) ∙ below_none e.0 es (first _ _ h))
          ∙ ap (λ k. if is_newer (get held k) e.1 then Some now else get s q) (sym (same_key-true q e.0 tie))
      | false ↦ λ _. refl
    ] refl

pub get-merged : (now : ℕ) (held : Copies) (s : Stamps) (pack : Copies) (q : List ℕ) → get (stamps_merged now held s pack) q ≡ stamp_after now (get held q) (get s q) (get pack q)
unfolding stamps_merged
get-merged now held s pack q = get-stamped now held (entries pack) s q (entries_sorted pack) ∙ ap (stamp_after now (get held q) (get s q)) (sym (get-entries pack q))

pub newer_differs : (o : Option Version) (v : Version) → is_newer o v ≡ true → o ≢ Some v
newer_differs o v t e = true≢false (sym t ∙ ap (λ o. is_newer o v) e ∙ is_newer-is_below (Some v) v ∙ is_below-irrefl (Some v))

pub changed_at : (now : ℕ) (o : Option Version) (s : Option ℕ) (c : Option Version) → greater o c ≢ o → stamp_after now o s c ≡ Some now
changed_at now o s None d = absurd (d refl)
changed_at now o s (Some v) d = elim (pick (is_newer o v) (Some now) s) [
  | inl p ↦ p.1
  | inr p ↦ absurd (d (ap (λ t. if t then Some v else o) p.0))
]

pub same_at : (now : ℕ) (o : Option Version) (s : Option ℕ) (c : Option Version) → greater o c ≡ o → stamp_after now o s c ≡ s
same_at now o s None e = refl
same_at now o s (Some v) e = elim (pick (is_newer o v) (Some now) s) [
  | inl p ↦ absurd (newer_differs o v p.0 (sym e ∙ ap (λ t. if t then Some v else o) p.0))
  | inr p ↦ p.1
]

pub merges_are_stamped : MergesAreStamped
merges_are_stamped now held pack s = record {
  changed = λ key d. get-merged now held s pack key ∙ changed_at now (get held key) (get s key) (get pack key) (λ e. d (get-joined held pack key ∙ e));
  same = λ key e. get-merged now held s pack key ∙ same_at now (get held key) (get s key) (get pack key) (sym (get-joined held pack key) ∙ e);
}

-- the stamp goes by what the copy becomes
pub stamp_after-alike : (now : ℕ) (h : Option Version) (s : Option ℕ) (a b : Option Version) → greater h a ≡ greater h b → stamp_after now h s a ≡ stamp_after now h s b
stamp_after-alike now h s None b e = sym (same_at now h s b (sym e))
stamp_after-alike now h s (Some v) b e = elim (pick (is_newer h v) (Some v) h) [
  | inl up ↦
      ap (λ t. if t then Some now else s) up.0
      ∙ sym (changed_at now h s b (λ f. newer_differs h v up.0 (sym (sym up.1 ∙ e ∙ f))))
  | inr same ↦ ap (λ t. if t then Some now else s) same.0 ∙ sym (same_at now h s b (sym e ∙ same.1))
]

pub stamped_alike : (held a b : Copies) → joined held a ≡ joined held b → AreStampedAlike held a b
stamped_alike held a b e now s = same_stamps _ _ (λ q.
    get-merged now held s a q
    ∙ stamp_after-alike now (get held q) (get s q) (get a q) (get b q) (sym (get-joined held a q) ∙ ap (λ m. get m q) e ∙ get-joined held b q)
    ∙ sym (get-merged now held s b q))

-- ---- short packs
short_cases : (short whole held : Copies) → IsShort short whole held → (q : List ℕ) (c : Option Version) → get short q ≡ c
    → (get short q ≡ get whole q) ⊎ ((get short q ≡ None) × ((v : Version) → get whole q ≡ Some v → is_newer (get held q) v ≡ false))
short_cases short whole held f q None e = inr (e, λ v w. f.held_anyway q v e w)
short_cases short whole held f q (Some v) e = inl (e ∙ sym (f.part q v e))

stamp_kept : (now : ℕ) (o : Option Version) (s : Option ℕ) (c : Option Version) → ((v : Version) → c ≡ Some v → is_newer o v ≡ false) → stamp_after now o s c ≡ s
stamp_kept now o s None f = refl
stamp_kept now o s (Some v) f = ap (λ t. if t then Some now else s) (f v refl)

pub short_is_alike : ShortIsAlike
short_is_alike now short whole held s f = (
  same_copies _ _ (λ q. get-joined held short q ∙ (elim (short_cases short whole held f q (get short q) refl) [
    | inl e ↦ ap (greater (get held q)) e
    | inr e ↦ ap (greater (get held q)) e.0 ∙ sym (held_on (get held q) (get whole q) e.1)
  ]) ∙ sym (get-joined held whole q)),
  same_stamps _ _ (λ q. get-merged now held s short q ∙ (elim (short_cases short whole held f q (get short q) refl) [
    | inl e ↦ ap (stamp_after now (get held q) (get s q)) e
    | inr e ↦ ap (stamp_after now (get held q) (get s q)) e.0 ∙ sym (stamp_kept now (get held q) (get s q) (get whole q) e.1)
  ]) ∙ sym (get-merged now held s whole q)),
)

-- ---- no stamp is above a number
least : (n : ℕ) → 0 ≤ n
least n = omega (arith)

reflexive : (n : ℕ) → n ≤ n
reflexive n = omega (arith)

pub AreAtMost-empty : (now : ℕ) → AreAtMost now empty
AreAtMost-empty now key = subst (λ o. stamp_or_zero o ≤ now) (sym (get-empty key_cmp key)) (least now)

-- nor above a later one
pub AreAtMost-later : (now later : ℕ) (s : Stamps) → now ≤ later → AreAtMost now s → AreAtMost later s
AreAtMost-later now later s up h key = up_to (stamp_at s key) now later (h key) up
  where
    up_to : (a b c : ℕ) → a ≤ b → b ≤ c → a ≤ c
    up_to a b c h i = omega (arith, h, i)

-- when a copy was put
pub AreAtMost-put : (now : ℕ) (s : Stamps) (key : List ℕ) → AreAtMost now s → AreAtMost now (insert s key now)
AreAtMost-put now s key h q = subst (λ o. stamp_or_zero o ≤ now) (sym (get-insert nat_list_cmp_total s key now q))
    (elim (same_key q key) as (λ t. stamp_or_zero (cond t (Some now) (get s q)) ≤ now) [ true ↦ reflexive now | false ↦ h q ])

stamp_after-at_most : (now : ℕ) (o : Option Version) (s : Option ℕ) (c : Option Version) → stamp_or_zero s ≤ now → stamp_or_zero (stamp_after now o s c) ≤ now
stamp_after-at_most now o s None h = h
stamp_after-at_most now o s (Some v) h = elim (is_newer o v) as (λ t. stamp_or_zero (if t then Some now else s) ≤ now) [ true ↦ reflexive now | false ↦ h ]

-- when copies were merged
pub AreAtMost-merged : (now : ℕ) (held sent : Copies) (s : Stamps) → AreAtMost now s → AreAtMost now (stamps_merged now held s sent)
AreAtMost-merged now held sent s h q =
    subst (λ o. stamp_or_zero o ≤ now) (sym (get-merged now held s sent q)) (stamp_after-at_most now (get held q) (get s q) (get sent q) (h q))
