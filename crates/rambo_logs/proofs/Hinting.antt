-- Hints and copies, as copies are put and logged
use Rattle.std.proofs.Common.{◌≡◌, ◌≢◌, ℕ, zero, suc, ◌+◌, ◌-◌, ◌<◌, ◌≤◌, true, false, List, [], ◌∷◌, ◌++◌, replicate, length, Option, Some, get_or, set, refl, ap, ◌∙◌, add-one, arith}
use Rattle.std.specs.Prelude.{if◌then◌else◌, All, slice_index_or}
use Rattle.std.proofs.lemmas.List.{length-set, get_or_append_left, get_or-set_same, get_or-set_other, get_or_past, get_or-replicate, length-replicate, length_push}
use Rattle.std.proofs.lemmas.List.Elements.{All-head, All-tail, All-set, All-append, All-replicate}
use Rattle.std.proofs.Math.Decide.{dec_lt}
use Rattle.rambo_tag.specs.declared.keyed_version.KeyedVersion.{KeyedVersion}
use Rattle.rambo_tag.specs.declared.version.Version.{Version}
use Rattle.rambo_tag.specs.Tags.{is_newer, greater}
use Rattle.rambo_tag.proofs.CopyOrder.{is_newer-is_below, is_below-irrefl}
use Rattle.rambo_logs.specs.declared.entry.Entry.{Entry}
use Rattle.rambo_logs.specs.Stored.{no_copy, copy_at, copy_of, copies_of, hinted, hint_place, hint_at, is_lacked, raised, AreHints, IsWithin}

-- a copy isn't newer than itself
pub is_newer-itself : (v : Version) → is_newer (Some v) v ≡ false
is_newer-itself v = is_newer-is_below (Some v) v ∙ is_below-irrefl (Some v)

-- a hint that isn't 0 tells of the copy at the place before it
pub hinted-above : (puts : List KeyedVersion) (h : ℕ) → (h ≡ 0 → ⊥) → hinted puts h ≡ Some (copy_at puts (h - 1)).version
hinted-above puts zero some = absurd (some refl)
hinted-above puts (suc place) some = let e : place ≡ suc place - 1 = omega arith in ap (λ p. Some (copy_at puts p).version) e

-- what stands below the end of a list, or past it
pub within_or_past : {P : Type 0} (i n : ℕ) → (i < n → P) → (n ≤ i → P) → P
within_or_past i n f g = elim (dec_lt i n) [ yes h ↦ f h | no h ↦ g (omega (arith, h)) ]

-- where a hint stands tells its key's number and its node
pub hint_place-number : (m n a : ℕ) → hint_place m a ≡ hint_place n a → m ≡ n
hint_place-number m n a e = omega (arith, e)

pub hint_place-node : (m n a b : ℕ) → a < 64 → b < 64 → hint_place m a ≡ hint_place n b → a ≡ b
hint_place-node m n a b h k e = omega (arith, h, k, e)

pub hint_place-below : (n a len : ℕ) → a < 64 → hint_place n 64 ≤ len → hint_place n a < len
hint_place-below n a len h k = omega (arith, h, k)

-- a hint that is read tells of a copy that was put
pub hint_within : (puts : List KeyedVersion) (hints : List ℕ) (i : ℕ) → AreHints puts hints → get_or hints i 0 ≤ length puts
hint_within puts hints i told =
    within_or_past i (length hints) (λ h. told i 0 h) (λ h. let e = get_or_past hints i 0 h in omega (arith, e))

module _ (puts : List KeyedVersion) (c : KeyedVersion) where
  -- one more copy was put: what is told of those before stays
  pub copy_at-put : (place : ℕ) → place < length puts → copy_at (puts ++ c ∷ []) place ≡ copy_at puts place
  copy_at-put place h = get_or_append_left puts (c ∷ []) no_copy place h

  pub copies_of-put : (es : List Entry) → All (λ e. e.place < length puts) es → copies_of (puts ++ c ∷ []) es ≡ copies_of puts es
  copies_of-put [] h = refl
  copies_of-put (e ∷ es) h =
      λ i. copy_at-put e.place (All-head (λ (x : Entry). x.place < length puts) e es h) i ∷ copies_of-put es (All-tail (λ (x : Entry). x.place < length puts) e es h) i

  pub hinted-put : (h : ℕ) → h ≤ length puts → hinted (puts ++ c ∷ []) h ≡ hinted puts h
  hinted-put zero le = refl
  hinted-put (suc place) le = let below : place < length puts = omega (arith, le) in ap (λ x. Some x.version) (copy_at-put place below)

  pub AreHints-put : (hints : List ℕ) → AreHints puts hints → AreHints (puts ++ c ∷ []) hints
  AreHints-put hints told = let more = length_push puts c in λ k d h. let le : slice_index_or hints k d ≤ length puts = told k d h in omega (arith, le, more)

-- new hints are 0, which is what is read past the end too
pub get_or-zeros : (hints : List ℕ) (n i : ℕ) → get_or (hints ++ replicate n 0) i 0 ≡ get_or hints i 0
get_or-zeros [] n i = within_or_past i n (λ h. get_or-replicate n i 0 0 h) (λ h. get_or_past (replicate n 0) i 0 (let e : length (replicate n 0) ≡ n = length-replicate {A = ℕ} n 0 in omega (arith, h, e)))
get_or-zeros (x ∷ xs) n zero = refl
get_or-zeros (x ∷ xs) n (suc i) = get_or-zeros xs n i

pub AreHints-zeros : (puts : List KeyedVersion) (hints : List ℕ) (n : ℕ) → AreHints puts hints → AreHints puts (hints ++ replicate n 0)
AreHints-zeros puts hints n told =
    let P : ℕ → Type 0 = λ h. h ≤ length puts in
    All-append P hints (replicate n 0) told (All-replicate P n 0 (omega arith))

module _ (puts : List KeyedVersion) (node : ℕ) (hints : List ℕ) (e : Entry) where
  -- one copy was logged

  pub length-raised : length (raised puts node hints e) ≡ length hints
  length-raised = elim (is_lacked puts hints node e) as (λ t. length (if t then set hints (hint_place e.number node) (e.place + 1) else hints) ≡ length hints) [
    | true ↦ length-set hints (hint_place e.number node) (e.place + 1)
    | false ↦ refl
  ]

  pub raised-other : (i : ℕ) → i ≢ hint_place e.number node → get_or (raised puts node hints e) i 0 ≡ get_or hints i 0
  raised-other i apart = elim (is_lacked puts hints node e) as (λ t. get_or (if t then set hints (hint_place e.number node) (e.place + 1) else hints) i 0 ≡ get_or hints i 0) [
    | true ↦ get_or-set_other hints (hint_place e.number node) i (e.place + 1) 0 apart
    | false ↦ refl
  ]

  pub hinted-raised : hint_place e.number node < length hints
      → hinted puts (hint_at (raised puts node hints e) e.number node) ≡ greater (hinted puts (hint_at hints e.number node)) (Some (copy_of puts e).version)
  hinted-raised within =
      let held : Option Version = hinted puts (hint_at hints e.number node) in
      let one : hinted puts (e.place + 1) ≡ Some (copy_of puts e).version = ap (hinted puts) (add-one e.place) in
      elim (is_lacked puts hints node e) as (λ t. hinted puts (get_or (if t then set hints (hint_place e.number node) (e.place + 1) else hints) (hint_place e.number node) 0) ≡ (if t then Some (copy_of puts e).version else held)) [
        | true ↦ ap (hinted puts) (get_or-set_same hints (hint_place e.number node) (e.place + 1) 0 within) ∙ one
        | false ↦ refl
      ]

  pub AreHints-raised : AreHints puts hints → e.place < length puts → AreHints puts (raised puts node hints e)
  AreHints-raised told placed =
      let P : ℕ → Type 0 = λ h. h ≤ length puts in
      elim (is_lacked puts hints node e) as (λ t. AreHints puts (if t then set hints (hint_place e.number node) (e.place + 1) else hints)) [
        | true ↦ All-set P hints (hint_place e.number node) (e.place + 1) (omega (arith, placed)) told
        | false ↦ told
      ]

pub IsWithin-raised : (puts : List KeyedVersion) (node : ℕ) (hints : List ℕ) (e x : Entry) → IsWithin puts hints x → IsWithin puts (raised puts node hints e) x
IsWithin-raised puts node hints e x h = let same = length-raised puts node hints e in record { place = h.place; row = omega (arith, h.row, same) }
