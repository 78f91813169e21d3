-- Marks in order: the given ones are, and no others where no two tie
use Rattle.std.proofs.Common.{◌≡◌, ℕ, zero, suc, ◌≤◌, ◌<◌, Bool, true, false, cond, not, ◌&&◌, nat_lt, List, [], ◌∷◌, length, map, filter, bytes_eq, refl, sym, ap, subst, ◌∙◌, true≢false, arith}
use Rattle.std.specs.Cmp.{IsStrictWeakOrder}
use Rattle.std.specs.List.{All, AllPairs, AllByRecursion, Contains}
use Rattle.std.specs.List.Sorted.{IsPermutation, ties}
use Rattle.std.proofs.lemmas.Bool.Decides.{nat_tests}
use Rattle.std.proofs.lemmas.List.Elements.{All-from_recursion, recursion_from_All, All-weaker, All-filter, All-contains, All-contains_itself, filter_passes}
use Rattle.std.proofs.lemmas.List.Kept.{AllPairs-cons}
use Rattle.std.proofs.lemmas.List.Sorted.{IsPermutation-refl, IsPermutation-cons, IsPermutation-swap, IsPermutation-trans, IsPermutation-sym, Contains-permutation, sum_by-IsPermutation}
use Rattle.std.proofs.lemmas.List.Sums.{length-filter}
use Rattle.rambo_tag.specs.declared.tag.Tag.{Tag}
use Rattle.rambo_tag.specs.Tags.{tag_lt, tag_of}
use Rattle.rambo_history.specs.declared.event.Event.{Event}
use Rattle.rambo_history.specs.Calls.{key_of, is_get}
use Rattle.rambo_sequence.specs.declared.mark.Mark.{Mark}
use Rattle.rambo_sequence.specs.Sequences.{call_place, rank, mark_lt, with_mark, sorted_marks, sequence_of}
use Rattle.rambo_sequence.specs.Orders.{with_item}
use Rattle.rambo_sequence.specs.RankedCalls.{ranked}
use Rattle.rambo_sequence.specs.Laws.{MayPrecede, Differ, GivenIsSequence, OneSequence, marks_of}
use Rattle.rambo_sequence.proofs.Ascents.{IsLeast, Ascends, Ascends-with, same_ascents}
use Rattle.rambo_sequence.proofs.RankedLists.{is_before-mark_lt, is_before-weak}

-- tags
itself : (t : Tag) → tag_lt t t ≡ false
itself t = grind (arith, nat_tests)

same_tags : (t u : Tag) → tag_lt t u ≡ false → tag_lt u t ≡ false → t ≡ u
same_tags t u h k =
    let sequence : t.sequence ≡ u.sequence = grind (arith, nat_tests) in
    let name : t.name ≡ u.name = grind (arith, nat_tests) in
    (λ i. record { sequence = sequence i; name = name i })

-- what a test of tags and then of ranks says
not_less : (s t u : Bool) → cond s true (cond t false u) ≡ false → (s ≡ false) × (t ≡ false → u ≡ false)
not_less true t u e = absurd (true≢false e)
not_less false true u e = (refl, λ f. absurd (true≢false f))
not_less false false u e = (refl, λ f. e)

is_not_less : (s t u : Bool) → s ≡ false → (t ≡ false → u ≡ false) → cond s true (cond t false u) ≡ false
is_not_less true t u h k = absurd (true≢false h)
is_not_less false true u h k = refl
is_not_less false false u h k = k refl

-- what a test of ranks says: of gets, and of the places of their calls
gets_above : (g k : Bool) (p q : ℕ) → nat_lt (cond k (suc q) zero) (cond g (suc p) zero) ≡ false → g ≡ true → k ≡ true
gets_above g true p q e h = refl
gets_above true false p q e h = absurd (let less : 0 < suc p = omega arith in grind (arith, nat_tests))
gets_above false false p q e h = h

places_rise : (g k : Bool) (p q : ℕ) → nat_lt (cond k (suc q) zero) (cond g (suc p) zero) ≡ false → g ≡ true → k ≡ true → p ≤ q
places_rise true true p q e h l = grind (arith, nat_tests)
places_rise true false p q e h l = absurd (true≢false (sym l))
places_rise false k p q e h l = absurd (true≢false (sym h))

ranks_rise : (g k : Bool) (p q : ℕ) → (g ≡ true → k ≡ true) → (g ≡ true → k ≡ true → p ≤ q) → nat_lt (cond k (suc q) zero) (cond g (suc p) zero) ≡ false
ranks_rise true true p q h l = let le : p ≤ q = l refl refl in grind (arith, nat_tests)
ranks_rise true false p q h l = absurd (true≢false (sym (h refl)))
ranks_rise false k p q h l = grind (arith, nat_tests)

module _ (h : List Event) where
  -- the order of marks, in words
  may_precede : (a b : Mark) → mark_lt h b a ≡ false → MayPrecede h a b
  may_precede a b e =
      let tests = not_less (tag_lt (tag_of b.kept) (tag_of a.kept)) (tag_lt (tag_of a.kept) (tag_of b.kept)) (nat_lt (rank h b) (rank h a)) e in
      let ranks : tag_of a.kept ≡ tag_of b.kept → nat_lt (rank h b) (rank h a) ≡ false =
      λ same. tests.1 (ap (λ t. tag_lt (tag_of a.kept) t) (sym same) ∙ itself (tag_of a.kept)) in
      record {
        by_tag = tests.0;
        sets_first = λ same. gets_above (is_get a.op) (is_get b.op) (call_place a.id h) (call_place b.id h) (ranks same);
        by_place = λ same. places_rise (is_get a.op) (is_get b.op) (call_place a.id h) (call_place b.id h) (ranks same);
      }

  not_before : (a b : Mark) → MayPrecede h a b → mark_lt h b a ≡ false
  not_before a b may =
      is_not_less (tag_lt (tag_of b.kept) (tag_of a.kept)) (tag_lt (tag_of a.kept) (tag_of b.kept)) (nat_lt (rank h b) (rank h a)) may.by_tag
      (λ e. let same = same_tags (tag_of a.kept) (tag_of b.kept) e may.by_tag in
      ranks_rise (is_get a.op) (is_get b.op) (call_place a.id h) (call_place b.id h) (may.sets_first same) (may.by_place same))

  weak : IsStrictWeakOrder (mark_lt h)
  weak = record {
    one_way = λ a b e. sym (is_before-mark_lt h b a) ∙ is_before-weak.one_way (ranked h a) (ranked h b) (is_before-mark_lt h a b ∙ e);
    chain = λ a b c e f. sym (is_before-mark_lt h a c) ∙ is_before-weak.chain (ranked h a) (ranked h b) (ranked h c) (is_before-mark_lt h a b ∙ e) (is_before-mark_lt h b c ∙ f);
  }

  -- lists in order
  least_from : (a : Mark) (ms : List Mark) → AllByRecursion (MayPrecede h a) ms → IsLeast (mark_lt h) a ms
  least_from a [] all = tt
  least_from a (m ∷ ms) all = (not_before a m all.0, least_from a ms all.1)

  precedes_all : (a : Mark) (ms : List Mark) → IsLeast (mark_lt h) a ms → AllByRecursion (MayPrecede h a) ms
  precedes_all a [] least = tt
  precedes_all a (m ∷ ms) least = (may_precede a m least.0, precedes_all a ms least.1)

  Ascends-from_pairs : (ms : List Mark) → AllPairs (MayPrecede h) ms → Ascends (mark_lt h) ms
  Ascends-from_pairs [] pairs = tt
  Ascends-from_pairs (m ∷ ms) pairs = (
    least_from m ms (recursion_from_All (MayPrecede h m) ms (λ k d l. pairs 0 (suc k) d (omega arith) (omega arith))),
    Ascends-from_pairs ms (λ i j d l k. pairs (suc i) (suc j) d (omega arith) (omega arith)),
  )

  pairs_from_ascends : (ms : List Mark) → Ascends (mark_lt h) ms → AllPairs (MayPrecede h) ms
  pairs_from_ascends [] up = λ i j d l k. absurd (omega arith)
  pairs_from_ascends (m ∷ ms) up =
      AllPairs-cons (MayPrecede h) m ms (All-from_recursion (MayPrecede h m) ms (precedes_all m ms up.0)) (pairs_from_ascends ms up.1)

  -- the given marks of a key
  with_mark-permutation : (m : Mark) (ms : List Mark) → IsPermutation (m ∷ ms) (with_mark h m ms)
  with_mark-permutation m [] = IsPermutation-refl (m ∷ [])
  with_mark-permutation m (a ∷ ms) =
      elim (mark_lt h m a) as (λ t. IsPermutation (m ∷ a ∷ ms) (cond t (m ∷ a ∷ ms) (a ∷ with_mark h m ms))) [
        | true ↦ IsPermutation-refl (m ∷ a ∷ ms)
        | false ↦ IsPermutation-trans (m ∷ a ∷ ms) (a ∷ m ∷ ms) (a ∷ with_mark h m ms)
            (IsPermutation-swap (m ∷ a ∷ ms) (a ∷ m ∷ ms) 0 1 (omega arith) (omega arith) refl)
            (IsPermutation-cons a (m ∷ ms) (with_mark h m ms) (with_mark-permutation m ms))
      ]

  sorted_marks-permutation : (key : List ℕ) (ms : List Mark) → IsPermutation (marks_of key ms) (sorted_marks h key ms)
  sorted_marks-permutation key [] = IsPermutation-refl []
  sorted_marks-permutation key (m ∷ ms) =
      elim (bytes_eq (key_of m.op) key) as (λ t. IsPermutation (cond t (m ∷ marks_of key ms) (marks_of key ms)) (cond t (with_mark h m (sorted_marks h key ms)) (sorted_marks h key ms))) [
        | true ↦ IsPermutation-trans (m ∷ marks_of key ms) (m ∷ sorted_marks h key ms) (with_mark h m (sorted_marks h key ms))
            (IsPermutation-cons m (marks_of key ms) (sorted_marks h key ms) (sorted_marks-permutation key ms))
            (with_mark-permutation m (sorted_marks h key ms))
        | false ↦ sorted_marks-permutation key ms
      ]

  with_mark-item : (m : Mark) (ms : List Mark) → with_item (mark_lt h) m ms ≡ with_mark h m ms
  with_mark-item m [] = refl
  with_mark-item m (a ∷ ms) = ap (λ l. cond (mark_lt h m a) (m ∷ a ∷ ms) (a ∷ l)) (with_mark-item m ms)

  Ascends-sorted_marks : (key : List ℕ) (ms : List Mark) → Ascends (mark_lt h) (sorted_marks h key ms)
  Ascends-sorted_marks key [] = tt
  Ascends-sorted_marks key (m ∷ ms) =
      elim (bytes_eq (key_of m.op) key) as (λ t. Ascends (mark_lt h) (cond t (with_mark h m (sorted_marks h key ms)) (sorted_marks h key ms))) [
        | true ↦ subst (Ascends (mark_lt h)) (with_mark-item m (sorted_marks h key ms)) (Ascends-with (mark_lt h) weak m (sorted_marks h key ms) (Ascends-sorted_marks key ms))
        | false ↦ Ascends-sorted_marks key ms
      ]

  -- marks that tie don't differ
  abbrev tie : Mark → Mark → Bool
  tie = ties (mark_lt h)

  both_false : (s t : Bool) → not s && not t ≡ true → (s ≡ false) × (t ≡ false)
  both_false true t e = absurd (true≢false (sym e))
  both_false false true e = absurd (true≢false (sym e))
  both_false false false e = (refl, refl)

  tied : (w a b : Mark) → tie w a ≡ true → tie w b ≡ true → Differ h a b → ⊥
  tied w a b e f differ =
      let wa = both_false (mark_lt h w a) (mark_lt h a w) e in
      let wb = both_false (mark_lt h w b) (mark_lt h b w) f in
      let ab = may_precede a b (weak.chain b w a wb.1 wa.0) in
      let ba = may_precede b a (weak.chain a w b wa.1 wb.0) in
      let same = same_tags (tag_of a.kept) (tag_of b.kept) ba.by_tag ab.by_tag in
      elim (is_get a.op) as (λ g. is_get a.op ≡ g → ⊥) [
        | true ↦ λ get.
            let also = ab.sets_first same get in
            differ.places same get also (let up = ab.by_place same get also in let down = ba.by_place (sym same) also get in omega arith)
        | false ↦ λ set. elim (is_get b.op) as (λ k. is_get b.op ≡ k → ⊥) [
          | true ↦ λ get. true≢false (sym (ba.sets_first (sym same) get) ∙ set)
          | false ↦ λ also. differ.one_set same set also
        ] refl
      ] refl

  none_ties : (w a : Mark) (ms : List Mark) → tie w a ≡ true → AllByRecursion (Differ h a) ms → filter (tie w) ms ≡ []
  none_ties w a [] e all = refl
  none_ties w a (m ∷ ms) e all =
      elim (tie w m) as (λ t. tie w m ≡ t → cond t (m ∷ filter (tie w) ms) (filter (tie w) ms) ≡ []) [
        | true ↦ λ f. absurd (tied w a m e f all.0)
        | false ↦ λ f. none_ties w a ms e all.1
      ] refl

  one_ties : (w : Mark) (ms : List Mark) → AllPairs (Differ h) ms → length (filter (tie w) ms) ≤ 1
  one_ties w [] apart = omega arith
  one_ties w (m ∷ ms) apart =
      elim (tie w m) as (λ t. tie w m ≡ t → length (cond t (m ∷ filter (tie w) ms) (filter (tie w) ms)) ≤ 1) [
        | true ↦ λ e.
            let none = none_ties w m ms e (recursion_from_All (Differ h m) ms (λ k d l. apart 0 (suc k) d (omega arith) (omega arith))) in
            rw none (omega arith)
        | false ↦ λ e. one_ties w ms (λ i j d l k. apart (suc i) (suc j) d (omega arith) (omega arith))
      ] refl

-- what passes a test in lists that contain the same, where one item does at most
none_left : {X : Type 0} (p : X → Bool) (a : X) (xs : List X) → filter p xs ≡ [] → AllByRecursion (λ x. p x ≡ true → x ≡ a) xs
none_left p a [] e = tt
none_left p a (x ∷ xs) e =
    elim (p x) as (λ t. p x ≡ t → cond t (x ∷ filter p xs) (filter p xs) ≡ [] → AllByRecursion (λ x. p x ≡ true → x ≡ a) (x ∷ xs)) [
      | true ↦ λ f k. absurd (cc)
      | false ↦ λ f k. (λ g. absurd (true≢false (sym g ∙ f)), none_left p a xs k)
    ] refl e

only_one : {X : Type 0} (p : X → Bool) (a : X) (xs : List X) → filter p xs ≡ a ∷ [] → AllByRecursion (λ x. p x ≡ true → x ≡ a) xs
only_one p a [] e = absurd (cc)
only_one p a (x ∷ xs) e =
    elim (p x) as (λ t. p x ≡ t → cond t (x ∷ filter p xs) (filter p xs) ≡ a ∷ [] → AllByRecursion (λ x. p x ≡ true → x ≡ a) (x ∷ xs)) [
      | true ↦ λ f k. (λ g. cc, none_left p a xs (cc))
      | false ↦ λ f k. (λ g. absurd (true≢false (sym g ∙ f)), only_one p a xs k)
    ] refl e

same_items : {X : Type 0} (f g : List X) → length g ≤ 1 → length f ≡ length g → ((a : X) → f ≡ a ∷ [] → All (λ b. b ≡ a) g) → f ≡ g
same_items [] [] few e is = refl
same_items [] (b ∷ g) few e is = absurd (omega (arith, e))
same_items (a ∷ f) [] few e is = absurd (omega (arith, e))
same_items (a ∷ []) (b ∷ []) few e is = ap (λ x. x ∷ []) (sym (is a refl 0 a (omega arith)))
same_items (a ∷ []) (b ∷ c ∷ g) few e is = absurd (omega (arith, e))
same_items (a ∷ c ∷ f) (b ∷ g) few e is = absurd (omega (arith, e, few))

same_kept : {X : Type 0} (p : X → Bool) (ms xs ys : List X) → IsPermutation ms xs → IsPermutation ms ys → length (filter p ms) ≤ 1 → filter p xs ≡ filter p ys
same_kept {X} p ms xs ys mx my few =
    let xs_count : length (filter p xs) ≡ length (filter p ms) =
    length-filter p xs ∙ sum_by-IsPermutation (λ x. cond (p x) 1 0) ms xs mx ∙ sym (length-filter p ms) in
    let ys_count : length (filter p ys) ≡ length (filter p ms) =
    length-filter p ys ∙ sum_by-IsPermutation (λ x. cond (p x) 1 0) ms ys my ∙ sym (length-filter p ms) in
    let both : IsPermutation ys xs = IsPermutation-trans ys ms xs (IsPermutation-sym ms ys my) mx in
    let there : All (Contains xs) ys = All-weaker (Contains ys) (Contains xs) (λ y c. Contains-permutation ys xs y both c) ys (All-contains_itself ys) in
    same_items (filter p xs) (filter p ys) (omega (arith, ys_count, few)) (xs_count ∙ sym ys_count)
    (λ a e k d l. let known = All-from_recursion (λ x. p x ≡ true → x ≡ a) xs (only_one p a xs e) in
    All-contains (λ x. p x ≡ true → x ≡ a) xs _ known (All-filter p (Contains xs) ys there k d l) (filter_passes p ys k d l))

pub given_is_sequence : GivenIsSequence
unfolding sequence_of
given_is_sequence h marks key = record {
  ordered = sorted_marks h key marks;
  exact = sorted_marks-permutation h key marks;
  in_order = pairs_from_ascends h (sorted_marks h key marks) (Ascends-sorted_marks h key marks);
  named = refl;
}

pub one_sequence : OneSequence
one_sequence h marks key calls apart is =
    let given = given_is_sequence h marks key in
    let same : is.ordered ≡ given.ordered = same_ascents (mark_lt h) (weak h) is.ordered given.ordered
    (Ascends-from_pairs h is.ordered is.in_order) (Ascends-from_pairs h given.ordered given.in_order)
    (λ w. same_kept (tie h w) (marks_of key marks) is.ordered given.ordered is.exact given.exact (one_ties h w (marks_of key marks) apart)) in
    is.named ∙ ap (map (λ (m : Mark). m.id)) same ∙ sym given.named
