-- The sequences of marked keys, and no others
use Rattle.std.proofs.Common.{◌≡◌, ℕ, zero, suc, ◌<◌, Bool, true, false, ◌||◌, List, [], ◌∷◌, length, map, bytes_eq, get_or, refl, sym, ap, subst, ◌∙◌, true≢false, arith}
use Rattle.std.specs.List.{AllPairs, AllByRecursion, Any, Contains, list_any}
use Rattle.std.proofs.lemmas.List.Elements.{All-from_recursion, recursion_from_All, All-map}
use Rattle.std.proofs.lemmas.List.Kept.{AllPairs-cons}
use Rattle.rambo_tag.specs.Tags.{bytes_lt}
use Rattle.rambo_tag.proofs.Keys.{bytes_eq-itself, bytes_eq-true}
use Rattle.rambo_history.specs.declared.event.Event.{Event}
use Rattle.rambo_history.specs.Calls.{key_of}
use Rattle.rambo_sequence.specs.declared.mark.Mark.{Mark}
use Rattle.rambo_sequence.specs.Sequences.{SequenceOf, keys_of, sequence_of, sequences_of}
use Rattle.rambo_sequence.specs.Laws.{AreSequences, GivenAreSequences, OneList}
use Rattle.rambo_sequence.proofs.KeyLists.{Key, has_key, IsBelow, Rises, same_rises, Rises-keys_of, has_key-keys_of}

or_true : (a b : Bool) → b ≡ true → a || b ≡ true
or_true true b h = refl
or_true false b h = h

-- a key among keys
contains_from : (ks : List Key) (q : Key) → has_key ks q ≡ true → Contains ks q
contains_from [] q h = absurd (true≢false (sym h))
contains_from (k ∷ ks) q h =
    elim (bytes_eq q k) as (λ t. bytes_eq q k ≡ t → t || has_key ks q ≡ true → Contains (k ∷ ks) q) [
      | true ↦ λ e g. (0, omega arith, sym (bytes_eq-true q k e))
      | false ↦ λ e g. let there = contains_from ks q g in (suc there.0, omega (arith, there.1), there.2)
    ] refl h

has_from : (ks : List Key) (q : Key) (n : ℕ) → n < length ks → get_or ks n q ≡ q → has_key ks q ≡ true
has_from [] q n l e = absurd (omega arith)
has_from (k ∷ ks) q zero l e = ap (λ t. t || has_key ks q) (ap (bytes_eq q) e ∙ bytes_eq-itself q)
has_from (k ∷ ks) q (suc n) l e = or_true (bytes_eq q k) (has_key ks q) (has_from ks q n (omega arith) e)

-- a key among marks
abbrev is_marked : List Mark → Key → Bool
is_marked marks q = list_any (λ m. bytes_eq q (key_of m.op)) marks

any_from : (ms : List Mark) (q : Key) → is_marked ms q ≡ true → Any (λ m. key_of m.op ≡ q) ms
any_from [] q h = absurd (true≢false (sym h))
any_from (m ∷ ms) q h =
    elim (bytes_eq q (key_of m.op)) as (λ t. bytes_eq q (key_of m.op) ≡ t → t || is_marked ms q ≡ true → Any (λ m. key_of m.op ≡ q) (m ∷ ms)) [
      | true ↦ λ e g. (0, m, omega arith, refl, sym (bytes_eq-true q (key_of m.op) e))
      | false ↦ λ e g. let there = any_from ms q g in (suc there.0, there.1, omega (arith, there.2), there.3, there.4)
    ] refl h

marked_from : (ms : List Mark) (q : Key) (n : ℕ) (x : Mark) → n < length ms → get_or ms n x ≡ x → key_of x.op ≡ q → is_marked ms q ≡ true
marked_from [] q n x l e k = absurd (omega arith)
marked_from (m ∷ ms) q zero x l e k =
    let same : key_of m.op ≡ q = ap (λ (m : Mark). key_of m.op) e ∙ k in
    ap (λ t. t || is_marked ms q) (ap (bytes_eq q) same ∙ bytes_eq-itself q)
marked_from (m ∷ ms) q (suc n) x l e k = or_true (bytes_eq q (key_of m.op)) (is_marked ms q) (marked_from ms q n x (omega arith) e k)

alike : (a b : Bool) → (a ≡ true → b ≡ true) → (b ≡ true → a ≡ true) → a ≡ b
alike true b f g = sym (f refl)
alike false true f g = g refl
alike false false f g = refl

module _ (h : List Event) (marks : List Mark) where
  abbrev of_key : Key → SequenceOf
  of_key key = record { key = key; calls = sequence_of h marks key }

  abbrev keys : List SequenceOf → List Key
  keys ss = map (λ (s : SequenceOf). s.key) ss

  keys-of_keys : (ks : List Key) → keys (map of_key ks) ≡ ks
  keys-of_keys [] = refl
  keys-of_keys (k ∷ ks) = ap (λ l. k ∷ l) (keys-of_keys ks)

  below_all : (k : Key) (ks : List Key) → IsBelow k ks → AllByRecursion (λ (j : Key). bytes_lt k j ≡ true) ks
  below_all k [] b = tt
  below_all k (j ∷ js) b = (b.0, below_all k js b.1)

  pairs_rise : (ks : List Key) → Rises ks → AllPairs (λ (s t : SequenceOf). bytes_lt s.key t.key ≡ true) (map of_key ks)
  pairs_rise [] r = λ i j d l k. absurd (omega arith)
  pairs_rise (k ∷ ks) r =
      AllPairs-cons (λ (s t : SequenceOf). bytes_lt s.key t.key ≡ true) (of_key k) (map of_key ks)
      (All-map (λ (t : SequenceOf). bytes_lt k t.key ≡ true) of_key ks (All-from_recursion (λ (j : Key). bytes_lt k j ≡ true) ks (below_all k ks r.0)))
      (pairs_rise ks r.1)

  given_are : AreSequences h marks (map of_key (keys_of marks))
  given_are = record {
    rising = pairs_rise (keys_of marks) (Rises-keys_of marks);
    marked = λ q. (
      (λ c. let there = subst (λ ks. Contains ks q) (keys-of_keys (keys_of marks)) c in
          any_from marks q (sym (has_key-keys_of marks q) ∙ has_from (keys_of marks) q there.0 there.1 there.2)),
      (λ a. subst (λ ks. Contains ks q) (sym (keys-of_keys (keys_of marks)))
          (contains_from (keys_of marks) q (has_key-keys_of marks q ∙ marked_from marks q a.0 a.1 a.2 a.3 a.4))),
    );
    each = All-map (λ (s : SequenceOf). s.calls ≡ sequence_of h marks s.key) of_key (keys_of marks) (λ k d l. refl);
  }

  -- and no others
  is_below : (s : SequenceOf) (ss : List SequenceOf) → AllByRecursion (λ (t : SequenceOf). bytes_lt s.key t.key ≡ true) ss → IsBelow s.key (keys ss)
  is_below s [] all = tt
  is_below s (t ∷ ts) all = (all.0, is_below s ts all.1)

  keys_rise : (ss : List SequenceOf) → AllPairs (λ (s t : SequenceOf). bytes_lt s.key t.key ≡ true) ss → Rises (keys ss)
  keys_rise [] pairs = tt
  keys_rise (s ∷ ss) pairs = (
    is_below s ss (recursion_from_All (λ (t : SequenceOf). bytes_lt s.key t.key ≡ true) ss (λ k d l. pairs 0 (suc k) d (omega arith) (omega arith))),
    keys_rise ss (λ i j d l k. pairs (suc i) (suc j) d (omega arith) (omega arith)),
  )

  of_own_keys : (ss : List SequenceOf) → AllByRecursion (λ (s : SequenceOf). s.calls ≡ sequence_of h marks s.key) ss → ss ≡ map of_key (keys ss)
  of_own_keys [] all = refl
  of_own_keys (s ∷ ss) all = λ i. (record { key = s.key; calls = all.0 i }) ∷ of_own_keys ss all.1 i

  no_others : (ss : List SequenceOf) → AreSequences h marks ss → ss ≡ map of_key (keys_of marks)
  no_others ss are =
      let same : keys ss ≡ keys_of marks = same_rises (keys ss) (keys_of marks) (keys_rise ss are.rising) (Rises-keys_of marks)
      (λ q. alike (has_key (keys ss) q) (has_key (keys_of marks) q)
      (λ e. let any = (are.marked q).0 (contains_from (keys ss) q e) in has_key-keys_of marks q ∙ marked_from marks q any.0 any.1 any.2 any.3 any.4)
      (λ e. let there = (are.marked q).1 (any_from marks q (sym (has_key-keys_of marks q) ∙ e)) in has_from (keys ss) q there.0 there.1 there.2)) in
      of_own_keys ss (recursion_from_All (λ (s : SequenceOf). s.calls ≡ sequence_of h marks s.key) ss are.each) ∙ ap (map of_key) same

pub given_are_sequences : GivenAreSequences
unfolding sequences_of
given_are_sequences h marks = given_are h marks

pub one_list : OneList
unfolding sequences_of
one_list h marks ss are = no_others h marks ss are
