-- Laws, no definitions: what proofs over runs read of maps and of merging
use Rattle.std.proofs.Common.{◌≡◌, ℕ, zero, suc, ◌+◌, ◌-◌, ◌<◌, ◌≤◌, max, if◌then◌else◌, List, [], ◌∷◌, ◌++◌, length, drop, Option, Some, None, refl, sym, ap, ◌∙◌, inl, inr, arith, slice_get, length-append, length-drop, sub-one}
use Rattle.std.proofs.lemmas.Bool.{cases_lt, lt-ltb, le-ltb}
use Rattle.std.proofs.lemmas.Option.{slice_get_past, slice_get_cases}
use Rattle.rambo_config_map.specs.declared.entry.Entry.{Entry}
use Rattle.rambo_config_map.specs.declared.entry.Entry.TheVariants.{Unknown, Active, Removed}
use Rattle.rambo_config_map.specs.Rows.{row_at}
use Rattle.rambo_config_map.specs.Maps.{MapState, end_of, top_of, active_at, entry_of, entry_at, merged_map}
use Rattle.rambo_config_map.specs.Merging.{greater_entry, HasGreaterEntries, HasActive, HasGreaterTop, IsNoLonger}

pub get_left : {A : Type 0} (xs ys : List A) (i : ℕ) → i < length xs → slice_get (xs ++ ys) i ≡ slice_get xs i
get_left [] ys i h = absurd (omega (arith, h))
get_left (x ∷ xs) ys zero h = refl
get_left (x ∷ xs) ys (suc i) h = get_left xs ys i (omega (arith, h))

pub get_right : {A : Type 0} (xs ys : List A) (i : ℕ) → length xs ≤ i → slice_get (xs ++ ys) i ≡ slice_get ys (i - length xs)
get_right [] ys i h = let e : i ≡ i - 0 = omega arith in ap (slice_get ys) e
get_right (x ∷ xs) ys zero h = absurd (omega (arith, h))
get_right (x ∷ xs) ys (suc i) h =
    let e : i - length xs ≡ suc i - suc (length xs) = omega arith in get_right xs ys i (omega (arith, h)) ∙ ap (slice_get ys) e

pub get_drop : {A : Type 0} (n : ℕ) (xs : List A) (i : ℕ) → slice_get (drop n xs) i ≡ slice_get xs (n + i)
get_drop zero xs i = let e : i ≡ 0 + i = omega arith in ap (slice_get xs) e
get_drop (suc n) [] i = refl
get_drop (suc n) (x ∷ xs) i =
    let e : suc (n + i) ≡ suc n + i = omega arith in get_drop n xs i ∙ ap (slice_get (x ∷ xs)) e

-- a place from the floor on has the row's configuration
pub active_kept : {Q : Type 0} (m : MapState Q) (p : ℕ) → m.floor ≤ p → active_at m p ≡ row_at m.floor m.configs p
active_kept m p h = ap (λ t. if t then None else row_at m.floor m.configs p) (le-ltb p m.floor h)

pub entry_kept : {Q : Type 0} (m : MapState Q) (p : ℕ) → m.floor ≤ p → entry_at m p ≡ entry_of (row_at m.floor m.configs p)
entry_kept m p h = ap (λ t. if t then Removed else entry_of (row_at m.floor m.configs p)) (le-ltb p m.floor h)

-- a place below the floor is removed
pub active_removed : {Q : Type 0} (m : MapState Q) (p : ℕ) → p < m.floor → active_at m p ≡ None
active_removed m p h = ap (λ t. if t then None else row_at m.floor m.configs p) (lt-ltb p m.floor h)

pub entry_removed : {Q : Type 0} (m : MapState Q) (p : ℕ) → p < m.floor → entry_at m p ≡ Removed
entry_removed m p h = ap (λ t. if t then Removed else entry_of (row_at m.floor m.configs p)) (lt-ltb p m.floor h)

-- a place above the top is unknown
pub row_past : {Q : Type 0} (m : MapState Q) (p : ℕ) → end_of m ≤ p → row_at m.floor m.configs p ≡ None
row_past m p h = slice_get_past m.configs (p - m.floor) (omega (arith, h))

-- the merged map's end is the greater one, where both maps have an active place
pub merged_end : {Q : Type 0} (a b : MapState Q) → 1 ≤ length a.configs → 1 ≤ length b.configs
    → end_of (merged_map a b) ≡ max (end_of a) (end_of b)
merged_end a b ha hb =
    let left = drop (max a.floor b.floor - a.floor) a.configs in
    let n : ℕ = max a.floor b.floor - b.floor + length left in
    omega (arith, ha, hb, length-append left (drop n b.configs), length-drop n b.configs, length-drop (max a.floor b.floor - a.floor) a.configs)

-- at a place that the first map has and the merged one keeps, it has the first one's configuration
pub merged_own : {Q : Type 0} (a b : MapState Q) (p : ℕ) → max a.floor b.floor ≤ p → p < end_of a
    → row_at (merged_map a b).floor (merged_map a b).configs p ≡ row_at a.floor a.configs p
merged_own a b p f h =
    let floor : ℕ = max a.floor b.floor in
    let left = drop (floor - a.floor) a.configs in
    let same : (floor - a.floor) + (p - floor) ≡ p - a.floor = omega (arith, f) in
    get_left left (drop (floor - b.floor + length left) b.configs) (p - floor) (omega (arith, f, h, length-drop (floor - a.floor) a.configs))
    ∙ get_drop (floor - a.floor) a.configs (p - floor) ∙ ap (slice_get a.configs) same

-- at a place above the first map, the second one's
pub merged_other : {Q : Type 0} (a b : MapState Q) (p : ℕ) → max a.floor b.floor ≤ p → end_of a ≤ p
    → row_at (merged_map a b).floor (merged_map a b).configs p ≡ row_at b.floor b.configs p
merged_other a b p f h =
    let floor : ℕ = max a.floor b.floor in
    let left = drop (floor - a.floor) a.configs in
    let l : length left ≡ length a.configs - (floor - a.floor) = length-drop (floor - a.floor) a.configs in
    let n : ℕ = floor - b.floor + length left in
    let same : n + ((p - floor) - length left) ≡ p - b.floor = omega (arith, f, h, l) in
    get_right left (drop n b.configs) (p - floor) (omega (arith, f, h, l)) ∙ get_drop n b.configs ((p - floor) - length left)
    ∙ ap (slice_get b.configs) same

greater_removed : {Q : Type 0} (e : Entry Q) → greater_entry e Removed ≡ Removed
greater_removed Unknown = refl
greater_removed (Active q) = refl
greater_removed Removed = refl

greater_active : {Q : Type 0} (q : Q) (o : Option Q) → greater_entry (Active q) (entry_of o) ≡ Active q
greater_active q None = refl
greater_active q (Some r) = refl

-- at a place from both floors on
merged_kept : {Q : Type 0} (a b : MapState Q) (p : ℕ) → max a.floor b.floor ≤ p
    → entry_of (row_at (merged_map a b).floor (merged_map a b).configs p)
    ≡ greater_entry (entry_of (row_at a.floor a.configs p)) (entry_of (row_at b.floor b.configs p))
merged_kept a b p f = elim (cases_lt p (end_of a)) [
  | inl h ↦ ap entry_of (merged_own a b p f h) ∙ elim ((slice_get_cases a.configs (p - a.floor)).1) [
    | inl w ↦ ap entry_of w.2 ∙ sym (greater_active w.0 (row_at b.floor b.configs p))
        ∙ ap (λ o. greater_entry (entry_of o) (entry_of (row_at b.floor b.configs p))) (sym w.2)
    | inr w ↦ absurd (omega (arith, w.0, h, f))
  ]
  | inr h ↦ ap entry_of (merged_other a b p f h)
      ∙ ap (λ o. greater_entry (entry_of o) (entry_of (row_at b.floor b.configs p))) (sym (row_past a p h))
]

pub merged_entries : {Q : Type 0} (a b : MapState Q) → HasGreaterEntries a b
merged_entries a b p = elim (cases_lt p a.floor) [
  | inl l ↦ entry_removed (merged_map a b) p (omega (arith, l)) ∙ ap (λ e. greater_entry e (entry_at b p)) (sym (entry_removed a p l))
  | inr h ↦ elim (cases_lt p b.floor) [
    | inl l ↦ entry_removed (merged_map a b) p (omega (arith, l)) ∙ sym (greater_removed (entry_at a p))
        ∙ ap (greater_entry (entry_at a p)) (sym (entry_removed b p l))
    | inr k ↦ entry_kept (merged_map a b) p (omega (arith, h, k)) ∙ merged_kept a b p (omega (arith, h, k))
        ∙ (λ i. greater_entry (sym (entry_kept a p h) i) (sym (entry_kept b p k) i))
  ]
]

-- the top is the place below the end
pub top_below : {Q : Type 0} (m : MapState Q) → top_of m ≡ end_of m - 1
top_below m = sym (sub-one (end_of m))

pub merged_top : {Q : Type 0} (a b : MapState Q) → HasActive a → HasActive b → HasGreaterTop a b
merged_top a b ha hb =
    omega (arith, merged_end a b ha hb, top_below (merged_map a b), top_below a, top_below b)

pub merged_no_longer : {Q : Type 0} (a b : MapState Q) → HasActive a → HasActive b → IsNoLonger a b
merged_no_longer a b ha hb =
    let e = merged_end a b ha hb in
    (λ h. omega (arith, e, h, ha, hb, top_below a, top_below b), λ h. omega (arith, e, h, ha, hb, top_below a, top_below b))

pub merged_active : {Q : Type 0} (a b : MapState Q) → HasActive a → HasActive b → HasActive (merged_map a b)
merged_active a b ha hb = omega (arith, merged_end a b ha hb)
