-- Each has its turn
use Rattle.std.proofs.Common.{◌≡◌, ◌≢◌, ℕ, zero, suc, ◌+◌, ◌-◌, ◌*◌, ◌/◌, ◌%◌, ◌^◌, ◌<◌, ◌≤◌, max, Bool, true, false, not, ◌&&◌, ◌||◌, cond, if◌then◌else◌, nat_eq, List, [], ◌∷◌, ◌++◌, filter, fold, length, take, drop, slice_get, Option, Some, ◌⊎◌, inl, inr, refl, sym, ap, ◌∙◌, eqb-true, eq-eqb, arith}
use Rattle.std.proofs.lemmas.Bool.{cases_lt}
use Rattle.std.proofs.lemmas.List.Sums.{fold-append}
use Rattle.std.proofs.lemmas.Nat.{div-add-mod', mod-mul-add, mod_below}
use Rattle.std.specs.Cmp.{nat_cmp_total, unsigned_tied}
use Rattle.std.specs.FinSet as set
use Rattle.std.specs.FinSet.{contains-insert, contains-remove}
use Rattle.std.specs.Ordering.{nat_cmp, eq_by_cmp}
use Rattle.rambo_names.specs.Names.{NameSet, IsName, names, rising, how_many, count_of}
use Rattle.rambo_names.specs.Quorums.{QuorumSystem}
use Rattle.rambo_outbox.specs.declared.asking.Choice.{Choice}
use Rattle.rambo_outbox.specs.Asking.{with_next, enough, others, turned, in_turn, next_turn, those, with_quorum, with_me, first_asked}
use Rattle.rambo_outbox.specs.Bids.{agree}
use Rattle.rambo_outbox.specs.Turns.{first_in_turn, turns_on, choice_on, AreHeard}
use Rattle.rambo_outbox.proofs.Lists.{drop_at}

-- the turn, as long as the count doesn't begin anew
turn_is : (i turn : ℕ) → turn + i < 2 ^ 64 → turns_on i turn ≡ turn + i
turn_is zero turn h = omega arith
turn_is (suc i) turn h =
    let next : next_turn turn ≡ turn + 1 = omega (arith, h) in
    let same : next_turn turn + i ≡ turn + suc i = omega (arith, next) in
    turn_is i (next_turn turn) (omega (arith, next, h)) ∙ same

-- the place of a turn among so many
place_low : (t k i : ℕ) → t % k + i < k → (t + i) % k ≡ t % k + i
place_low t k i h =
    let parts : t + i ≡ t / k * k + (t % k + i) = omega (arith, div-add-mod' t k) in
    ap (λ n. n % k) parts ∙ mod-mul-add (t / k) k (t % k + i) h

place_high : (t k i : ℕ) → i < k → k ≤ t % k + i → (t + i) % k + k ≡ t % k + i
place_high t k i h past =
    let low : t % k < k = mod_below t k (omega (arith, h)) in
    let parts : t + i ≡ suc (t / k) * k + (t % k + i - k) = omega (arith, div-add-mod' t k, past) in
    let is : (t + i) % k ≡ t % k + i - k = ap (λ n. n % k) parts ∙ mod-mul-add (suc (t / k)) k (t % k + i - k) (omega (arith, h, low, past)) in
    omega (arith, is, past)

-- the turn at which a place comes, and no other
place_comes : (t k p : ℕ) → p < k → (i : ℕ) × (i < k) × ((t + i) % k ≡ p)
place_comes t k p h =
    let low : t % k < k = mod_below t k (omega (arith, h)) in
    elim (cases_lt p (t % k)) [
      | inl before ↦
          let i : ℕ = p + k - t % k in
          let here : (t + i) % k + k ≡ t % k + i = place_high t k i (omega (arith, before)) (omega (arith, low)) in
          (i, omega (arith, before), omega (arith, here, low))
      | inr behind ↦
          let i : ℕ = p - t % k in
          let here : (t + i) % k ≡ t % k + i = place_low t k i (omega (arith, behind, h)) in
          (i, omega (arith, h), omega (arith, here, behind))
    ]

comes_once : (t k i j : ℕ) → i < k → j < k → (t + i) % k ≡ (t + j) % k → i ≡ j
comes_once t k i j hi hj same =
    elim (cases_lt (t % k + i) k) [
      | inl low ↦ elim (cases_lt (t % k + j) k) [
        | inl low' ↦ omega (arith, place_low t k i low, place_low t k j low', same)
        | inr high' ↦ omega (arith, place_low t k i low, place_high t k j hj high', same, hi, hj)
      ]
      | inr high ↦ elim (cases_lt (t % k + j) k) [
        | inl low' ↦ omega (arith, place_high t k i hi high, place_low t k j low', same, hi, hj)
        | inr high' ↦ omega (arith, place_high t k i hi high, place_high t k j hj high', same)
      ]
    ]

-- how many names there are
counted : (p : ℕ → Bool) (t : Bool) (n k : ℕ) (ns : List ℕ) → length ns ≡ k → length (cond t (n ∷ ns) ns) ≡ cond t 1 0 + k
counted p true n k ns is = let more : suc k ≡ 1 + k = omega arith in ap suc is ∙ more
counted p false n k ns is = let same : k ≡ 0 + k = omega arith in is ∙ same

passing : (p : ℕ → Bool) (ns : List ℕ) → length (filter p ns) ≡ how_many p ns
passing p [] = refl
passing p (n ∷ ns) = counted p (p n) n (how_many p ns) (filter p ns) (passing p ns)

length_names : (all : NameSet) → length (names all) ≡ count_of all
unfolding names count_of
length_names all = passing (set.contains all) (rising 64 1)

-- the place of a name, if another may stand before the rest
moved_on : (t : Bool) (m n : ℕ) (ns : List ℕ) → ((p : ℕ) × (slice_get ns p ≡ Some n)) → (p : ℕ) × (slice_get (cond t (m ∷ ns) ns) p ≡ Some n)
moved_on true m n ns there = (suc there.0, there.1)
moved_on false m n ns there = there

at_front : (t : Bool) (m n : ℕ) (ns : List ℕ) → t ≡ true → m ≡ n → (p : ℕ) × (slice_get (cond t (m ∷ ns) ns) p ≡ Some n)
at_front true m n ns is same = (0, ap Some same)
at_front false m n ns is same = cc

place_among : (p : ℕ → Bool) (k m n : ℕ) → m ≤ n → n < m + k → p n ≡ true → (i : ℕ) × (slice_get (filter p (rising k m)) i ≡ Some n)
unfolding rising
place_among p zero m n low high is = absurd (omega (arith, low, high))
place_among p (suc k) m n low high is =
    elim (cases_lt m n) [
      | inl before ↦ moved_on (p m) m n (filter p (rising k (m + 1))) (place_among p k (m + 1) n (omega (arith, before)) (omega (arith, high)) is)
      | inr behind ↦
          let same : m ≡ n = omega (arith, low, behind) in
          at_front (p m) m n (filter p (rising k (m + 1))) (ap p same ∙ is) same
    ]

-- what stands among the names of a list passes the test, and is no less than the first
behind_first : (t : Bool) (m n i : ℕ) (ns : List ℕ) → slice_get (cond t (m ∷ ns) ns) i ≡ Some n → ((j : ℕ) → slice_get ns j ≡ Some n → m + 1 ≤ n) → m ≤ n
behind_first true m n zero ns is rest = let same : m ≡ n = cc in omega (arith, same)
behind_first true m n (suc i) ns is rest = let h = rest i is in omega (arith, h)
behind_first false m n i ns is rest = let h = rest i is in omega (arith, h)

from_first : (p : ℕ → Bool) (k m n i : ℕ) → slice_get (filter p (rising k m)) i ≡ Some n → m ≤ n
unfolding rising
from_first p zero m n i is = cc
from_first p (suc k) m n i is = behind_first (p m) m n i (filter p (rising k (m + 1))) is (λ j h. from_first p k (m + 1) n j h)

one_place : (t : Bool) (m n i j : ℕ) (ns : List ℕ) → slice_get (cond t (m ∷ ns) ns) i ≡ Some n → slice_get (cond t (m ∷ ns) ns) j ≡ Some n → ((h : ℕ) → slice_get ns h ≡ Some n → m + 1 ≤ n)
    → ((a b : ℕ) → slice_get ns a ≡ Some n → slice_get ns b ≡ Some n → a ≡ b) → i ≡ j
one_place true m n zero zero ns is is' behind rest = refl
one_place true m n zero (suc j) ns is is' behind rest = let same : m ≡ n = cc in let h = behind j is' in absurd (omega (arith, same, h))
one_place true m n (suc i) zero ns is is' behind rest = let same : m ≡ n = cc in let h = behind i is in absurd (omega (arith, same, h))
one_place true m n (suc i) (suc j) ns is is' behind rest = ap suc (rest i j is is')
one_place false m n i j ns is is' behind rest = rest i j is is'

places_differ : (p : ℕ → Bool) (k m n i j : ℕ) → slice_get (filter p (rising k m)) i ≡ Some n → slice_get (filter p (rising k m)) j ≡ Some n → i ≡ j
unfolding rising
places_differ p zero m n i j is is' = cc
places_differ p (suc k) m n i j is is' =
    one_place (p m) m n i j (filter p (rising k (m + 1))) is is' (λ h there. from_first p k (m + 1) n h there) (λ a b ha hb. places_differ p k (m + 1) n a b ha hb)

passes : (p : ℕ → Bool) (t : Bool) (m n i : ℕ) (ns : List ℕ) → p m ≡ t → slice_get (cond t (m ∷ ns) ns) i ≡ Some n → ((j : ℕ) → slice_get ns j ≡ Some n → p n ≡ true) → p n ≡ true
passes p true m n zero ns here is rest = let same : m ≡ n = cc in sym (ap p same) ∙ here
passes p true m n (suc i) ns here is rest = rest i is
passes p false m n i ns here is rest = rest i is

all_pass : (p : ℕ → Bool) (ns : List ℕ) (n i : ℕ) → slice_get (filter p ns) i ≡ Some n → p n ≡ true
all_pass p [] n i is = cc
all_pass p (m ∷ ns) n i is = passes p (p m) m n i (filter p ns) refl is (λ j h. all_pass p ns n j h)

-- a name has one place among the names of a set, and what stands there is in the set
place_of : (all : NameSet) (n : ℕ) → set.contains all n ≡ true → IsName n → (p : ℕ) × (slice_get (names all) p ≡ Some n)
unfolding names
place_of all n has is = place_among (set.contains all) 64 1 n is.0 (omega (arith, is.1)) has

one_place_of : (all : NameSet) (n i j : ℕ) → slice_get (names all) i ≡ Some n → slice_get (names all) j ≡ Some n → i ≡ j
unfolding names
one_place_of all n i j is is' = places_differ (set.contains all) 64 1 n i j is is'

is_among : (all : NameSet) (n i : ℕ) → slice_get (names all) i ≡ Some n → set.contains all n ≡ true
unfolding names
is_among all n i is = all_pass (set.contains all) (rising 64 1) n i is

within : {A : Type 0} (xs : List A) (i : ℕ) (x : A) → slice_get xs i ≡ Some x → i < length xs
within [] i x is = cc
within (y ∷ ys) zero x is = omega arith
within (y ∷ ys) (suc i) x is = let h = within ys i x is in omega (arith, h)

has_one : {A : Type 0} (xs : List A) (i : ℕ) → i < length xs → (x : A) × (slice_get xs i ≡ Some x)
has_one [] i low = absurd (omega (arith, low))
has_one (y ∷ ys) zero low = (y, refl)
has_one (y ∷ ys) (suc i) low = has_one ys i (omega (arith, low))

-- who stands at the place of a turn comes first then, unless it was silent
not_left_out : (silent : NameSet) (t : Bool) (n : ℕ) (ns : List ℕ) → t ≡ false → slice_get (cond (agree t false) (n ∷ ns) ns) 0 ≡ Some n
not_left_out silent false n ns is = refl
not_left_out silent true n ns is = cc

first_at : (silent : NameSet) (p n : ℕ) (ns : List ℕ) → slice_get ns p ≡ Some n → set.contains silent n ≡ false → slice_get (those silent false (turned p ns)) 0 ≡ Some n
first_at silent p n ns is heard =
    ap (λ ms. slice_get (those silent false (ms ++ take p ns)) 0) (drop_at ns p n is)
    ∙ not_left_out silent (set.contains silent n) n (those silent false (drop (p + 1) ns ++ take p ns)) heard

same_one : (a b : ℕ) (o : Option ℕ) → o ≡ Some a → o ≡ Some b → a ≡ b
same_one a b o is is' = cc

-- the place of a turn among the others
place_then : (turn i k : ℕ) → i < k → turn + k ≤ 2 ^ 64 → turns_on i turn % max 1 k ≡ (turn + i) % k
place_then turn i k h whole =
    let some : max 1 k ≡ k = omega (arith, h) in
    let is : turns_on i turn ≡ turn + i = turn_is i turn (omega (arith, h, whole)) in
    ap (λ m. turns_on i turn % m) some ∙ ap (λ t. t % k) is

first_then : {Q : Type 0} (s : QuorumSystem Q) (c : Choice) (silent : ℕ → NameSet) (q : Q) (i p n : ℕ) → i < count_of (others s c.reach q) → c.turn + count_of (others s c.reach q) ≤ 2 ^ 64
    → (c.turn + i) % count_of (others s c.reach q) ≡ p → slice_get (names (others s c.reach q)) p ≡ Some n → set.contains (silent i) n ≡ false → first_in_turn s (choice_on silent c i) q ≡ Some n
first_then s c silent q i p n low whole is there heard =
    let all = others s c.reach q in
    ap (λ m. slice_get (those (silent i) false (turned m (names all))) 0) (place_then c.turn i (count_of all) low whole ∙ is)
    ∙ first_at (silent i) p n (names all) there heard

pub each_has_its_turn : {Q : Type 0} (s : QuorumSystem Q) (c : Choice) (silent : ℕ → NameSet) (q : Q) (n : ℕ) → set.contains (others s c.reach q) n ≡ true → IsName n
    → c.turn + count_of (others s c.reach q) ≤ 2 ^ 64
    → (i : ℕ) × (i < count_of (others s c.reach q)) × (set.contains (silent i) n ≡ false → first_in_turn s (choice_on silent c i) q ≡ Some n)
    × ((j : ℕ) → j < count_of (others s c.reach q) → AreHeard (silent j) (others s c.reach q) → first_in_turn s (choice_on silent c j) q ≡ Some n → j ≡ i)
each_has_its_turn s c silent q n has is whole =
    let all : NameSet = others s c.reach q in
    let k : ℕ = count_of all in
    let there = place_of all n has is in
    let p : ℕ = there.0 in
    let at : slice_get (names all) p ≡ Some n = there.1 in
    let low : p < k = let h = within (names all) p n at in omega (arith, h, length_names all) in
    let comes = place_comes c.turn k p low in (
      comes.0,
      comes.1,
      λ heard. first_then s c silent q comes.0 p n comes.1 whole comes.2 at heard,
      λ j below heard first.
          let r : ℕ = (c.turn + j) % k in
          let under : r < k = mod_below (c.turn + j) k (omega (arith, below)) in
          let one = has_one (names all) r (omega (arith, under, length_names all)) in
          let m : ℕ = one.0 in
          let at' : slice_get (names all) r ≡ Some m = one.1 in
          let first' : first_in_turn s (choice_on silent c j) q ≡ Some m = first_then s c silent q j r m below whole refl at' (heard m (is_among all m r at')) in
          let same : m ≡ n = same_one m n (first_in_turn s (choice_on silent c j) q) first' first in
          let place : r ≡ p = one_place_of all n r p (at' ∙ ap Some same) at in
          comes_once c.turn k j comes.0 below comes.1 (place ∙ sym comes.2),
    )

-- who is asked stays so
behind : (a b : Bool) → b ≡ true → (a || b) ≡ true
behind true b h = refl
behind false b h = h

front : (a b : Bool) → a ≡ true → (a || b) ≡ true
front true b h = refl
front false b h = cc

kept : (who : NameSet) (m n : ℕ) (t : Bool) → set.contains who n ≡ true → set.contains (if t then who else set.insert who m) n ≡ true
kept who m n true has = has
kept who m n false has = contains-insert nat_cmp_total who m n ∙ behind (eq_by_cmp nat_cmp n m) (set.contains who n) has

all_kept : {Q : Type 0} (s : QuorumSystem Q) (q : Q) (n : ℕ) (ns : List ℕ) (who : NameSet) → set.contains who n ≡ true → set.contains (enough s q who ns) n ≡ true
all_kept s q n [] who has = has
all_kept s q n (m ∷ ns) who has = all_kept s q n ns (with_next s q who m) (kept who m n (s.is_quorum q who) has)

quorums_kept : {Q : Type 0} (s : QuorumSystem Q) (c : Choice) (n : ℕ) (qs : List Q) (who : NameSet) → set.contains who n ≡ true → set.contains (fold (with_quorum s c) who qs) n ≡ true
quorums_kept s c n [] who has = has
quorums_kept s c n (q ∷ qs) who has =
    quorums_kept s c n qs (with_quorum s c who q)
    (all_kept s q n (those c.silent true (in_turn s c q)) (enough s q who (those c.silent false (in_turn s c q))) (all_kept s q n (those c.silent false (in_turn s c q)) who has))

-- the first one is asked, unless there is a quorum before
inserted : (who : NameSet) (n : ℕ) → set.contains (set.insert who n) n ≡ true
inserted who n = contains-insert nat_cmp_total who n n ∙ front (eq_by_cmp nat_cmp n n) (set.contains who n) (unsigned_tied n n ∙ eq-eqb n n refl)

added : (who : NameSet) (n : ℕ) (t : Bool) → t ≡ false → set.contains (if t then who else set.insert who n) n ≡ true
added who n true is = cc
added who n false is = inserted who n

first_added : {Q : Type 0} (s : QuorumSystem Q) (q : Q) (n : ℕ) (ns : List ℕ) (who : NameSet) → s.is_quorum q who ≡ false → slice_get ns 0 ≡ Some n → set.contains (enough s q who ns) n ≡ true
first_added s q n [] who is first = cc
first_added s q n (m ∷ ns) who is first =
    let same : m ≡ n = cc in
    all_kept s q n ns (with_next s q who m) (ap (λ h. set.contains (with_next s q who h) n) same ∙ added who n (s.is_quorum q who) is)

either_way : (t : Bool) → (t ≡ true) ⊎ (t ≡ false)
either_way true = inl refl
either_way false = inr refl

differ : (n me : ℕ) → n ≢ me → nat_eq n me ≡ false
differ n me other = elim (either_way (nat_eq n me)) [
  | inl is ↦ absurd (other (eqb-true n me is))
  | inr is ↦ is
]

left : (who : NameSet) (me n : ℕ) → set.contains who n ≡ true → n ≢ me → set.contains (set.remove who me) n ≡ true
left who me n has other =
    contains-remove nat_cmp_total who me n
    ∙ ap (λ t. not t && set.contains who n) (unsigned_tied n me ∙ differ n me other)
    ∙ has

pub first_is_asked : {Q : Type 0} (s : QuorumSystem Q) (c : Choice) (before : List Q) (q : Q) (after : List Q) (n : ℕ) → s.is_quorum q (with_me s c before) ≡ false → first_in_turn s c q ≡ Some n → n ≢ c.me
    → set.contains (first_asked s c (before ++ q ∷ after)) n ≡ true
first_is_asked s c before q after n lacks first other =
    let who = with_me s c before in
    let silent_too = all_kept s q n (those c.silent true (in_turn s c q)) (enough s q who (those c.silent false (in_turn s c q))) (first_added s q n (those c.silent false (in_turn s c q)) who lacks first) in
    left (with_me s c (before ++ q ∷ after)) c.me n
    (ap (λ w. set.contains w n) (fold-append (with_quorum s c) (set.insert set.empty c.me) before (q ∷ after)) ∙ quorums_kept s c n after (with_quorum s c who q) silent_too) other
