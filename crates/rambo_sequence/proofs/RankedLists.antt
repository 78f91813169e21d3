-- Ranked calls in order are the marks in order
use Rattle.std.proofs.Common.{◌≡◌, ℕ, true, false, cond, nat_lt, nat_eq, List, [], ◌∷◌, map, filter, reverse, bytes_eq, refl, ap, ◌∙◌, is_lt, nat_cmp, arith}
use Rattle.std.specs.Cmp.{IsTotalOrder, IsStrictWeakOrder}
use Rattle.std.specs.List.Sorted.{IsSortedBy, IsStableBy}
use Rattle.std.specs.Ordering.{ordering_then}
use Rattle.std.proofs.lemmas.Bool.Decides.{nat_tests}
use Rattle.std.proofs.lemmas.Cmp.{nat_cmp_total, on_total, then_total}
use Rattle.rambo_history.specs.declared.event.Event.{Event}
use Rattle.rambo_history.specs.Calls.{key_of}
use Rattle.rambo_tag.specs.Tags.{tag_of}
use Rattle.rambo_sequence.specs.declared.mark.Mark.{Mark}
use Rattle.rambo_sequence.specs.declared.ranking.SortKey.{SortKey}
use Rattle.rambo_sequence.specs.declared.ranking.RankedCall.{RankedCall}
use Rattle.rambo_sequence.specs.Orders.{with_item}
use Rattle.rambo_sequence.specs.RankedCalls.{sort_key_cmp, is_before, ranked, ranked_calls, sorted_calls}
use Rattle.rambo_sequence.specs.Sequences.{rank, mark_lt, with_mark, sorted_marks, sequence_of}
use Rattle.rambo_sequence.proofs.WeakOrders.{IsStrictWeakOrder-from_total}
use Rattle.rambo_sequence.proofs.Ascents.{ordered_from_sort}

-- the order of ranked calls is the one of marks
numbers_then : (m n r p q s : ℕ)
    → is_lt (ordering_then (nat_cmp m p) (ordering_then (nat_cmp n q) (nat_cmp r s)))
    ≡ cond (cond (nat_lt m p) true (cond (nat_eq m p) (nat_lt n q) false)) true (cond (cond (nat_lt p m) true (cond (nat_eq p m) (nat_lt q n) false)) false (nat_lt r s))
numbers_then m n r p q s = grind (arith, nat_tests)

pub is_before-mark_lt : (h : List Event) (a b : Mark) → is_before (ranked h a) (ranked h b) ≡ mark_lt h a b
is_before-mark_lt h a b =
    numbers_then (tag_of a.kept).sequence (tag_of a.kept).name (rank h a) (tag_of b.kept).sequence (tag_of b.kept).name (rank h b)

with_item-ranked : (h : List Event) (m : Mark) (ms : List Mark) → with_item is_before (ranked h m) (map (ranked h) ms) ≡ map (ranked h) (with_mark h m ms)
with_item-ranked h m [] = refl
with_item-ranked h m (a ∷ ms) =
    ap (λ t. cond t (ranked h m ∷ ranked h a ∷ map (ranked h) ms) (ranked h a ∷ with_item is_before (ranked h m) (map (ranked h) ms))) (is_before-mark_lt h m a)
    ∙ elim (mark_lt h m a) as (λ t. cond t (ranked h m ∷ ranked h a ∷ map (ranked h) ms) (ranked h a ∷ with_item is_before (ranked h m) (map (ranked h) ms))
    ≡ map (ranked h) (cond t (m ∷ a ∷ ms) (a ∷ with_mark h m ms))) [
      | true ↦ refl
      | false ↦ ap (λ l. ranked h a ∷ l) (with_item-ranked h m ms)
    ]

sorted_calls-ranked : (h : List Event) (key : List ℕ) (marks : List Mark) → sorted_calls (ranked_calls h marks key) ≡ map (ranked h) (sorted_marks h key marks)
sorted_calls-ranked h key [] = refl
sorted_calls-ranked h key (m ∷ ms) =
    elim (bytes_eq (key_of m.op) key) as (λ t. sorted_calls (map (ranked h) (cond t (m ∷ filter (λ m. bytes_eq (key_of m.op) key) ms) (filter (λ m. bytes_eq (key_of m.op) key) ms)))
    ≡ map (ranked h) (cond t (with_mark h m (sorted_marks h key ms)) (sorted_marks h key ms))) [
      | true ↦ ap (with_item is_before (ranked h m)) (sorted_calls-ranked h key ms) ∙ with_item-ranked h m (sorted_marks h key ms)
      | false ↦ sorted_calls-ranked h key ms
    ]

ids-ranked : (h : List Event) (ms : List Mark) → map (λ (c : RankedCall). c.id) (map (ranked h) ms) ≡ map (λ (m : Mark). m.id) ms
ids-ranked h [] = refl
ids-ranked h (m ∷ ms) = ap (λ l. m.id ∷ l) (ids-ranked h ms)

pub sequence_of-ranked : (h : List Event) (marks : List Mark) (key : List ℕ) → map (λ (c : RankedCall). c.id) (sorted_calls (ranked_calls h marks key)) ≡ sequence_of h marks key
unfolding sequence_of
sequence_of-ranked h marks key =
    ap (map (λ (c : RankedCall). c.id)) (sorted_calls-ranked h key marks) ∙ ids-ranked h (sorted_marks h key marks)

-- the order is a weak one
sort_key_cmp-total : IsTotalOrder sort_key_cmp
sort_key_cmp-total =
    then_total (on_total (λ (k : SortKey). k.sequence) nat_cmp_total) (then_total (on_total (λ (k : SortKey). k.writer) nat_cmp_total) (on_total (λ (k : SortKey). k.rank) nat_cmp_total))

pub is_before-weak : IsStrictWeakOrder is_before
is_before-weak = IsStrictWeakOrder-from_total (on_total (λ (c : RankedCall). c.sort_key) sort_key_cmp-total)

pub sorted_calls-from_sort : (calls sorted : List RankedCall) → IsSortedBy is_before sorted → IsStableBy is_before (reverse calls) sorted → sorted ≡ sorted_calls calls
sorted_calls-from_sort calls sorted up stable = ordered_from_sort is_before is_before-weak calls sorted up stable
