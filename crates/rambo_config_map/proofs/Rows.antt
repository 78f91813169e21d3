-- Rows of slots that all have a configuration
use Rattle.std.proofs.Common.{◌≡◌, ℕ, ◌-◌, min, Bool, true, true≢false, ◌&&◌, List, [], ◌∷◌, ◌++◌, length, take, drop, map, Option, Some, None, refl, sym, ap, ◌∙◌, inl, inr, arith, length-drop}
use Rattle.std.proofs.lemmas.Bool.{cases_lt}
use Rattle.std.proofs.lemmas.List.{drop-map, drop_all, take_all, map-append, take-append-le}
use Rattle.std.specs.List.{list_all, refill}
use Rattle.std.specs.Option.{option_eq}
use Rattle.std.specs.Bool.{Decides}
use Rattle.std.specs.Cmp.Lexicographic.{pointwise}
use Rattle.std.proofs.lemmas.Slice.Eq.{slice_eq-Decides}
use Rattle.rambo_names.specs.Names.{NameSet}
use Rattle.rambo_names.specs.Quorums.{QuorumSystem}
use Rattle.rambo_config_map.specs.Rows.{filled, slot_has_quorum}

-- slots that have these configurations
abbrev pub full : {Q : Type 0} → List Q → List (Option Q)
full xs = map (λ x. Some x) xs

filled-full : {Q : Type 0} (xs : List Q) → filled (full xs) ≡ xs
filled-full [] = refl
filled-full (x ∷ xs) = ap (λ ys. x ∷ ys) (filled-full xs)

-- slots that have these configurations keep them, and have no gap
pub kept : {Q : Type 0} (slots : List (Option Q)) (xs : List Q) → slots ≡ full xs
    → (filled slots ≡ xs) × (slots ≡ full (filled slots))
kept slots xs e = let f : filled slots ≡ xs = ap filled e ∙ filled-full xs in (f, e ∙ ap full (sym f))

-- the slots of a row
pub slots_of : {Q : Type 0} (slots : List (Option Q)) (xs : List Q) → slots ≡ full (filled slots) → filled slots ≡ xs → slots ≡ full xs
slots_of slots xs no_gap has = no_gap ∙ ap full has

drop-min : {A : Type 0} (n : ℕ) (xs : List A) → drop (min n (length xs)) xs ≡ drop n xs
drop-min n xs = elim (cases_lt n (length xs)) [
  | inl h ↦ (let e : min n (length xs) ≡ n = omega (arith, h) in ap (λ k. drop k xs) e)
  | inr h ↦ drop_all (min n (length xs)) xs (omega (arith, h)) ∙ sym (drop_all n xs h)
]

-- a slice from n on is what dropping n leaves
from_on : {A : Type 0} (n : ℕ) (xs : List A) → take (length xs - n) (drop n xs) ≡ drop n xs
from_on n xs = take_all (length xs - n) (drop n xs) (omega (arith, length-drop n xs))

-- what is left of a list that was rotated and cut
rotated : {A : Type 0} (n : ℕ) (xs : List A) → take (length xs - n) (drop n xs ++ take n xs) ≡ drop n xs
rotated n xs = take-append-le (length xs - n) (drop n xs) (take n xs) (omega (arith, length-drop n xs)) ∙ from_on n xs

-- a write of as many elements as there are leaves just these
refill_all : {A : Type 0} (xs ws : List A) → length ws ≡ length xs → refill (length xs) xs ws ≡ ws
refill_all xs ws e =
    take-append-le (length xs) ws (drop (length ws) xs) (omega (arith, e)) ∙ take_all (length xs) ws (omega (arith, e))

pub forgotten : {Q : Type 0} (slots slice turned rest : List (Option Q)) (xs : List Q) (count len start : ℕ) → slots ≡ full xs
    → len ≡ length slots → start ≡ min count len → slice ≡ slots → length turned ≡ length slice
    → turned ≡ drop start slice ++ take start slice → rest ≡ take (len - start) (refill (length slots) slots turned)
    → rest ≡ full (drop count xs)
forgotten slots slice turned rest xs count len start has l s same length_same turns cut =
    let whole : refill (length slots) slots turned ≡ turned = refill_all slots turned (length_same ∙ ap length same) in
    let first : start ≡ min count (length slots) = s ∙ ap (min count) l in
    cut ∙ ap (take (len - start)) (whole ∙ turns) ∙ (λ i. take (l i - start) (drop start (same i) ++ take start (same i)))
    ∙ rotated start slots ∙ ap (λ n. drop n slots) first ∙ drop-min count slots ∙ ap (drop count) has ∙ drop-map (λ x. Some x) count xs

-- the slots of another row from a place on
pub tail_of : {Q : Type 0} (slots slice : List (Option Q)) (xs : List Q) (from start : ℕ) → slots ≡ full xs → slice ≡ slots
    → start ≡ min from (length slice) → take (length slice - start) (drop start slice) ≡ full (drop from xs)
tail_of slots slice xs from start has same s =
    from_on start slice ∙ ap (λ n. drop n slice) s ∙ drop-min from slice ∙ ap (drop from) (same ∙ has) ∙ drop-map (λ x. Some x) from xs

-- slots after others
pub extended : {Q : Type 0} (old new more : List (Option Q)) (xs ys : List Q) → old ≡ full xs → more ≡ full ys → new ≡ old ++ more
    → new ≡ full (xs ++ ys)
extended old new more xs ys has has_more e = e ∙ (λ i. has i ++ has_more i) ∙ sym (map-append (λ x. Some x) xs ys)

list_all-slots : {Q : Type 0} (s : QuorumSystem Q) (who : NameSet) (qs : List (Option Q))
    → list_all (slot_has_quorum s who) qs ≡ list_all (λ q. s.is_quorum q who) (filled qs)
list_all-slots s who [] = refl
list_all-slots s who (Some q ∷ qs) = ap (λ t. s.is_quorum q who && t) (list_all-slots s who qs)
list_all-slots s who (None ∷ qs) = list_all-slots s who qs

-- the names hold a quorum in each slot where they hold one of each configuration
pub list_all-row : {Q : Type 0} (s : QuorumSystem Q) (who : NameSet) (slots slice : List (Option Q)) (xs : List Q) → slice ≡ slots
    → filled slots ≡ xs → list_all (slot_has_quorum s who) slice ≡ list_all (λ q. s.is_quorum q who) xs
list_all-row s who slots slice xs same has =
    ap (list_all (slot_has_quorum s who)) same ∙ list_all-slots s who slots ∙ ap (list_all (λ q. s.is_quorum q who)) has

option_eq-Decides : {Q : Type 0} (E : Q → Q → Bool) → ((a b : Q) → E a b ≡ true → a ≡ b) → ((a : Q) → E a a ≡ true)
    → (a b : Option Q) → Decides (option_eq E a b) (a ≡ b)
option_eq-Decides E identical same None None = (λ _. refl, λ _. refl)
option_eq-Decides E identical same None (Some b) = (λ e. absurd (true≢false (sym e)), λ e. cc)
option_eq-Decides E identical same (Some a) None = (λ e. absurd (true≢false (sym e)), λ e. cc)
option_eq-Decides E identical same (Some a) (Some b) =
    (λ e. ap (λ x. Some x) (identical a b e), λ e. let f : a ≡ b = cc in ap (E a) (sym f) ∙ same a)

-- two rows are the same where their slots are
pub rows-Decides : {Q : Type 0} (E : Q → Q → Bool) → ((a b : Q) → E a b ≡ true → a ≡ b) → ((a : Q) → E a a ≡ true)
    → (xs ys : List (Option Q)) (qs rs : List Q) (b : Bool) → xs ≡ full qs → ys ≡ full rs → b ≡ pointwise (option_eq E) xs ys
    → Decides b (qs ≡ rs)
rows-Decides E identical same xs ys qs rs b has_qs has_rs e =
    let slots : Decides b (xs ≡ ys) = slice_eq-Decides (option_eq-Decides E identical same) xs ys b e in
    (λ h. sym (filled-full qs) ∙ ap filled (sym has_qs ∙ slots.0 h ∙ has_rs) ∙ filled-full rs, λ h. slots.1 (has_qs ∙ ap full h ∙ sym has_rs))
