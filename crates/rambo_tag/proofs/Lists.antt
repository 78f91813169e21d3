-- The list of what changed, as far as the log was gone through
use Rattle.std.proofs.Common.{◌≡◌, ◌≢◌, ℕ, ◌+◌, ◌≤◌, ◌<◌, List, [], ◌∷◌, ◌++◌, length, get_or, All, Some, sym, ap, ◌∙◌, subst, arith}
use Rattle.std.specs.Prelude.{slice_get}
use Rattle.std.proofs.lemmas.List.Elements.{All-push}
use Rattle.std.proofs.lemmas.List.Quantifiers.{all_pairs_push}
use Rattle.std.proofs.lemmas.Option.{get_or_from_slice_get}
use Rattle.std.specs.Str.{bytes_eq}
use Rattle.std.specs.List.{IsDistinct}
use Rattle.std.specs.Map.{keys_of}
use Rattle.rambo_tag.specs.declared.slot.Slot.{Slot}
use Rattle.rambo_tag.specs.declared.slot.Row.{Row}
use Rattle.rambo_tag.specs.declared.keyed_version.KeyedVersion.{KeyedVersion}
use Rattle.rambo_tag.specs.Stamps.{stamp_at, stamp_or_zero}
use Rattle.rambo_tag.specs.Changes.{HasEachKeyOnce, IsLatestFirst}
use Rattle.rambo_tag.specs.Rows.{Slots, stamps_of, IsLogOf}
use Rattle.rambo_tag.proofs.Slots.{number_of, some_inj, get-stamps_of, slot_in-at, same_place}
use Rattle.rambo_tag.proofs.Rows.{within}

-- a copy comes from a row that was gone through, which tells of its key's last change
pub record ComesFrom (t : Slots) (log : List Row) (left : ℕ) (c : KeyedVersion) : Type 0 where
  pub index : ℕ
  pub row : Row
  pub entry : List ℕ × Slot
  pub late : left ≤ index
  pub at : slice_get log index ≡ Some row
  pub there : slice_get t row.place ≡ Some entry
  pub current : entry.1.number ≡ row.number
  pub key : entry.0 ≡ c.key

pub record Lists (t : Slots) (log : List Row) (left : ℕ) (out : List KeyedVersion) : Type 0 where
  pub each : All (ComesFrom t log left) out
  pub once : HasEachKeyOnce out
  pub latest_first : IsLatestFirst (stamps_of t) out

pub Lists-start : (t : Slots) (log : List Row) (left : ℕ) (out : List KeyedVersion) → out ≡ [] → Lists t log left out
Lists-start t log left out none = record {
  each = λ k d inside. absurd (outside k inside);
  once = λ i j d below inside. absurd (outside j inside);
  latest_first = λ i j d below inside. absurd (outside j inside);
}
  where
    no_number : (k n : ℕ) → n ≡ 0 → k < n → ⊥
    no_number k n e h = omega (arith, e, h)

    outside : (k : ℕ) → k < length out → ⊥
    outside k inside = no_number k (length out) (ap length none) inside

one_further : (t : Slots) (log : List Row) (left : ℕ) (c : KeyedVersion) → ComesFrom t log (left + 1) c → ComesFrom t log left c
one_further t log left c h = record { index = h.index; row = h.row; entry = h.entry; late = down left h.index h.late; at = h.at; there = h.there; current = h.current; key = h.key }
  where
    down : (l i : ℕ) → l + 1 ≤ i → l ≤ i
    down l i h = omega (arith, h)

-- a row that tells of an earlier change is passed over
pub Lists-stale : (t : Slots) (log : List Row) (left : ℕ) (out : List KeyedVersion) → Lists t log (left + 1) out → Lists t log left out
Lists-stale t log left out h = record { each = λ k d inside. one_further t log left (get_or out k d) (h.each k d inside); once = h.once; latest_first = h.latest_first }

-- a row that tells of a key's last change
pub Lists-fresh : (t : Slots) (log : List Row) (left : ℕ) (out more : List KeyedVersion) (r : Row) (e : List ℕ × Slot) (c : KeyedVersion) → IsDistinct bytes_eq (keys_of t) → IsLogOf t log
    → Lists t log (left + 1) out → slice_get log left ≡ Some r → slice_get t r.place ≡ Some e → e.1.number ≡ r.number → c.key ≡ e.0 → more ≡ out ++ c ∷ [] → Lists t log left more
Lists-fresh t log left out more r e c distinct logged h at there current key grows =
    subst (Lists t log left) (sym grows) (record {
      each = All-push (ComesFrom t log left) out c (λ k d inside. one_further t log left (get_or out k d) (h.each k d inside)) this;
      once = all_pairs_push (λ a b. a.key ≢ b.key) out c h.once (λ k d inside. apart (get_or out k d) (h.each k d inside));
      latest_first = all_pairs_push (λ a b. stamp_at (stamps_of t) b.key ≤ stamp_at (stamps_of t) a.key) out c h.latest_first (λ k d inside. earlier (get_or out k d) (h.each k d inside));
    })
  where
    reflexive : (n : ℕ) → n ≤ n
    reflexive n = omega (arith)

    further : (l i : ℕ) → l + 1 ≤ i → l < i
    further l i h = omega (arith, h)

    not_after : (l i : ℕ) → l + 1 ≤ i → l ≤ i
    not_after l i h = omega (arith, h)

    this : ComesFrom t log left c
    this = record { index = left; row = r; entry = e; late = reflexive left; at = at; there = there; current = current; key = sym key }

    -- no other row tells of this key's last change
    apart : (x : KeyedVersion) → ComesFrom t log (left + 1) x → x.key ≡ c.key → ⊥
    apart x w same =
        let place : w.row.place ≡ r.place = same_place t w.row.place r.place w.entry e distinct w.there there (w.key ∙ same ∙ key) in
        let entry : w.entry ≡ e = some_inj w.entry e (sym w.there ∙ ap (slice_get t) place ∙ there) in
        let number : w.row.number ≡ r.number = sym w.current ∙ ap (λ y. y.1.number) entry ∙ current in
        let row : w.row ≡ r = λ i. record { place = place i; number = number i } in
        logged.once left w.index r (further left w.index w.late) (within log w.index w.row w.at)
        (get_or_from_slice_get log left r r at ∙ sym (get_or_from_slice_get log w.index r r (w.at ∙ ap Some row)))

    stamp : (x : KeyedVersion) (p : ℕ) (f : List ℕ × Slot) → slice_get t p ≡ Some f → f.0 ≡ x.key → stamp_at (stamps_of t) x.key ≡ f.1.number
    stamp x p f has is = ap (stamp_at (stamps_of t)) (sym is) ∙ ap stamp_or_zero (get-stamps_of t f.0 ∙ ap number_of (slot_in-at t p f distinct has))

    earlier : (x : KeyedVersion) → ComesFrom t log (left + 1) x → stamp_at (stamps_of t) c.key ≤ stamp_at (stamps_of t) x.key
    earlier x w =
        let up = logged.rising left w.index r w.row (not_after left w.index w.late) at w.at in
        subst (λ n. n ≤ stamp_at (stamps_of t) x.key) (sym (stamp c r.place e there (sym key) ∙ current)) (subst (λ n. r.number ≤ n) (sym (stamp x w.row.place w.entry w.there w.key ∙ w.current)) up)
