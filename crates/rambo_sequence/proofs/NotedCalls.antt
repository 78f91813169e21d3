-- What the places of calls tell of the sequences that are left
use Rattle.std.proofs.Common.{◌≡◌, ◌⊎◌, ℕ, zero, suc, ◌+◌, ◌-◌, ◌<◌, Bool, true, false, if◌then◌else◌, List, [], ◌∷◌, ◌++◌, length, length-append, take, drop, get_or, map, Option, Some, None, slice_get, slice_set, refl, sym, ap, ◌∙◌, subst, inl, inr, true≢false, append_assoc, append-nil, arith}
use Rattle.std.proofs.Math.Seq.{take-append_seam, drop-append_seam}
use Rattle.std.specs.Borrow.{Bor}
use Rattle.rambo_history.specs.declared.operation.Op.{Op}
use Rattle.rambo_history.specs.declared.operation.Answer.{Answer}
use Rattle.rambo_history.specs.declared.event.CallId.{CallId}
use Rattle.rambo_history.specs.declared.event.Event.{Event}
use Rattle.rambo_history.specs.declared.event.Event.TheVariants as event
use Rattle.rambo_history.specs.Calls.{same_call}
use Rattle.rambo_history.proofs.Pushes.{same_call-path, same_call-refl}
use Rattle.rambo_sequence.specs.declared.store_order.Place.{Place}
use Rattle.rambo_sequence.specs.CallPlaces.{noted, all_noted, left_of, lists, joined}
use Rattle.rambo_sequence.specs.Sequences.{SequenceOf}
use Rattle.rambo_sequence.specs.StoreOrders.{NoTwice, all_calls, has, through, behind, given_through, left_behind, order_from, order_of}
use Rattle.rambo_sequence.proofs.Members.{Member, pick, some_inj, none-some, member_middle, stands_member, member_left, member_right, set_here, set_there, there_below}
use Rattle.rambo_sequence.proofs.GivenOrder.{apart_right}

abbrev at : ℕ → ℕ → Place
at n k = record { sequence = n; behind = k }

-- ---- whether a list has a call
has_true : (c : CallId) (cs : List CallId) → Member c cs → has c cs ≡ true
has_true c [] m = absurd m
has_true c (d ∷ ds) m = elim (pick (same_call d c) true (has c ds)) [
  | inl p ↦ p.1
  | inr p ↦ elim m [
    | inl e ↦ absurd (true≢false (sym (same_call-refl c) ∙ ap (λ d. same_call d c) (sym e) ∙ p.0))
    | inr r ↦ p.1 ∙ has_true c ds r
  ]
]

-- the first split of a list at a call that it has
pub record FirstSplit (c : CallId) (cs : List CallId) : Type 0 where
  pub front : List CallId
  pub back : List CallId
  pub whole : cs ≡ front ++ c ∷ back
  pub through_is : through c cs ≡ front ++ c ∷ []
  pub behind_is : behind c cs ≡ back

first_split : (c : CallId) (cs : List CallId) → has c cs ≡ true → FirstSplit c cs
first_split c [] e = absurd (true≢false (sym e))
first_split c (d ∷ ds) e = elim (pick (same_call d c) true (has c ds)) [
  | inl p ↦ (
      let same = same_call-path d c p.0 in
      record {
        front = [];
        back = ds;
        whole = ap (λ d. d ∷ ds) same;
        through_is = ap (λ t. d ∷ (if t then [] else through c ds)) p.0 ∙ ap (λ d. d ∷ []) same;
        behind_is = ap (λ t. if t then ds else behind c ds) p.0;
      }
      )
  | inr p ↦ (
      let r = first_split c ds (sym p.1 ∙ e) in
      record {
        front = d ∷ r.front;
        back = r.back;
        whole = ap (λ l. d ∷ l) r.whole;
        through_is = ap (λ t. d ∷ (if t then [] else through c ds)) p.0 ∙ ap (λ l. d ∷ l) r.through_is;
        behind_is = ap (λ t. if t then ds else behind c ds) p.0 ∙ r.behind_is;
      }
      )
]

no_true : (t : Bool) → (t ≡ true → ⊥) → t ≡ false
no_true true f = absurd (f refl)
no_true false f = refl

has_not : (c : CallId) (cs : List CallId) → (Member c cs → ⊥) → has c cs ≡ false
has_not c cs f = no_true (has c cs) (λ e. let r = first_split c cs e in f (subst (Member c) (sym r.whole) (member_middle c r.front r.back)))

-- ---- what is noted of one sequence
noted_not : (n : ℕ) (cs : List CallId) (c : CallId) (o : Option Place) → has c cs ≡ false → noted n cs c o ≡ o
noted_not n [] c o e = refl
noted_not n (d ∷ ds) c o e = elim (pick (same_call d c) true (has c ds)) [
  | inl p ↦ absurd (true≢false (sym p.1 ∙ e))
  | inr p ↦ noted_not n ds c (if same_call d c then Some (at n (length ds)) else o) (sym p.1 ∙ e) ∙ ap (λ t. if t then Some (at n (length ds)) else o) p.0
]

noted_at : (n : ℕ) (front : List CallId) (c : CallId) (back : List CallId) (o : Option Place) → has c back ≡ false → noted n (front ++ c ∷ back) c o ≡ Some (at n (length back))
noted_at n [] c back o e = noted_not n back c (if same_call c c then Some (at n (length back)) else o) e ∙ ap (λ t. if t then Some (at n (length back)) else o) (same_call-refl c)
noted_at n (d ∷ front) c back o e = noted_at n front c back (if same_call d c then Some (at n (length (front ++ c ∷ back))) else o) e

record NotedAt (n : ℕ) (cs : List CallId) (c : CallId) (p : Place) : Type 0 where
  front : List CallId
  back : List CallId
  whole : cs ≡ front ++ c ∷ back
  place : p ≡ at n (length back)

noted_from : (n : ℕ) (cs : List CallId) (c : CallId) (o : Option Place) (p : Place) → noted n cs c o ≡ Some p → (o ≡ Some p) ⊎ NotedAt n cs c p
noted_from n [] c o p e = inl e
noted_from n (d ∷ ds) c o p e = elim (noted_from n ds c (if same_call d c then Some (at n (length ds)) else o) p e) [
  | inl f ↦ elim (pick (same_call d c) (Some (at n (length ds))) o) [
    | inl q ↦ inr (record { front = []; back = ds; whole = ap (λ d. d ∷ ds) (same_call-path d c q.0); place = sym (some_inj _ p (sym q.1 ∙ f)) })
    | inr q ↦ inl (sym q.1 ∙ f)
  ]
  | inr r ↦ inr (record { front = d ∷ r.front; back = r.back; whole = ap (λ l. d ∷ l) r.whole; place = r.place })
]

-- ---- and of all
all_not : (n : ℕ) (ss : List SequenceOf) (c : CallId) (o : Option Place) → (Member c (all_calls ss) → ⊥) → all_noted n ss c o ≡ o
all_not n [] c o f = refl
all_not n (s ∷ ss) c o f =
    all_not (n + 1) ss c (noted n s.calls c o) (λ m. f (member_right c s.calls (all_calls ss) m))
    ∙ noted_not n s.calls c o (has_not c s.calls (λ m. f (member_left c s.calls (all_calls ss) m)))

all_at : (n : ℕ) (ss : List SequenceOf) (c : CallId) (o : Option Place) (i : ℕ) (s : SequenceOf) (front back : List CallId) → NoTwice (all_calls ss) → slice_get ss i ≡ Some s
    → s.calls ≡ front ++ c ∷ back → all_noted n ss c o ≡ Some (at (n + i) (length back))
all_at n [] c o i s front back twice e f = absurd (none-some s e)
all_at n (t ∷ ss) c o zero s front back twice e f =
    let calls : t.calls ≡ front ++ c ∷ back = ap (λ (s : SequenceOf). s.calls) (some_inj t s e) ∙ f in
    let alone : NoTwice (front ++ (c ∷ (back ++ all_calls ss))) = subst NoTwice (ap (λ l. l ++ all_calls ss) calls ∙ append_assoc front (c ∷ back) (all_calls ss)) twice in
    let last = apart_right front (c ∷ (back ++ all_calls ss)) alone in
    let none : Member c (back ++ all_calls ss) → ⊥ = λ m. last.0 (stands_member c (back ++ all_calls ss) m) in
    all_not (n + 1) ss c (noted n t.calls c o) (λ m. none (member_right c back (all_calls ss) m))
    ∙ ap (λ l. noted n l c o) calls
    ∙ noted_at n front c back o (has_not c back (λ m. none (member_left c back (all_calls ss) m)))
    ∙ ap (λ n. Some (at n (length back))) (omega arith)
all_at n (t ∷ ss) c o (suc i) s front back twice e f =
    all_at (n + 1) ss c (noted n t.calls c o) i s front back (apart_right t.calls (all_calls ss) twice) e f ∙ ap (λ n. Some (at n (length back))) (omega arith)

record AllNotedAt (n : ℕ) (ss : List SequenceOf) (c : CallId) (p : Place) : Type 0 where
  number : ℕ
  sequence : SequenceOf
  there : slice_get ss number ≡ Some sequence
  noted_at : NotedAt (n + number) sequence.calls c p

all_from : (n : ℕ) (ss : List SequenceOf) (c : CallId) (o : Option Place) (p : Place) → all_noted n ss c o ≡ Some p → (o ≡ Some p) ⊎ AllNotedAt n ss c p
all_from n [] c o p e = inl e
all_from n (s ∷ ss) c o p e = elim (all_from (n + 1) ss c (noted n s.calls c o) p e) [
  | inl f ↦ elim (noted_from n s.calls c o p f) [
    | inl g ↦ inl g
    | inr r ↦ inr (record { number = 0; sequence = s; there = refl; noted_at = subst (λ n. NotedAt n s.calls c p) (omega arith) r })
  ]
  | inr r ↦ inr (record { number = suc r.number; sequence = r.sequence; there = r.there; noted_at = subst (λ n. NotedAt n r.sequence.calls c p) (omega arith) r.noted_at })
]

-- ---- what the places tell of what is left
pub record Knows (look : CallId → Option Place) (ls : List (List CallId)) : Type 0 where
  pub known : (i : ℕ) (front : List CallId) (c : CallId) (back : List CallId) → slice_get ls i ≡ Some (front ++ c ∷ back) → look c ≡ Some (at i (length back))
  pub whose : (c : CallId) (p : Place) → look c ≡ Some p → (l : List CallId) × (slice_get ls p.sequence ≡ Some l)
      × (p.behind < length l → (front : List CallId) × (back : List CallId) × (l ≡ front ++ c ∷ back) × (length back ≡ p.behind))

got_map : {A B : Type 0} (f : A → B) (xs : List A) (i : ℕ) (b : B) → slice_get (map f xs) i ≡ Some b → (a : A) × (slice_get xs i ≡ Some a) × (f a ≡ b)
got_map f [] i b e = absurd (none-some b e)
got_map f (x ∷ xs) zero b e = (x, refl, some_inj (f x) b e)
got_map f (x ∷ xs) (suc i) b e = got_map f xs i b e

map_got : {A B : Type 0} (f : A → B) (xs : List A) (i : ℕ) (a : A) → slice_get xs i ≡ Some a → slice_get (map f xs) i ≡ Some (f a)
map_got f [] i a e = absurd (none-some a e)
map_got f (x ∷ xs) zero a e = ap (λ a. Some (f a)) (some_inj x a e)
map_got f (x ∷ xs) (suc i) a e = map_got f xs i a e

abbrev pub calls_of : List SequenceOf → List (List CallId)
calls_of ss = map (λ (s : SequenceOf). s.calls) ss

pub knows_first : (ss : List SequenceOf) (look : CallId → Option Place) → NoTwice (all_calls ss) → ((c : CallId) → look c ≡ all_noted 0 ss c None) → Knows look (calls_of ss)
knows_first ss look twice is = record {
  known = λ i front c back e. let r = got_map (λ (s : SequenceOf). s.calls) ss i (front ++ c ∷ back) e in
      is c ∙ all_at 0 ss c None i r.0 front back twice r.1 r.2 ∙ ap (λ n. Some (at n (length back))) (omega arith);
  whose = λ c p e. elim (all_from 0 ss c None p (sym (is c) ∙ e)) [
    | inl f ↦ absurd (none-some p f)
    | inr r ↦ (
        let here : slice_get (map (λ (s : SequenceOf). s.calls) ss) r.number ≡ Some r.sequence.calls = map_got (λ (s : SequenceOf). s.calls) ss r.number r.sequence r.there in
        let place : r.number ≡ p.sequence = omega arith ∙ sym (ap (λ (p : Place). p.sequence) r.noted_at.place) in (
          r.sequence.calls,
          subst (λ n. slice_get (map (λ (s : SequenceOf). s.calls) ss) n ≡ Some r.sequence.calls) place here,
          λ l. (r.noted_at.front, r.noted_at.back, r.noted_at.whole, sym (ap (λ (p : Place). p.behind) r.noted_at.place)),
        )
        )
  ];
}

-- a list behind a front has what its last items are
suffix : (front rest f : List CallId) (c : CallId) (b : List CallId) → front ++ rest ≡ f ++ c ∷ b → length b < length rest → (g : List CallId) × (rest ≡ g ++ c ∷ b)
suffix [] rest f c b e l = (f, e)
suffix (x ∷ front) rest [] c b e l =
    let tail : front ++ rest ≡ b = cc in
    let size : length front + length rest ≡ length b = sym (length-append front rest) ∙ ap length tail in
    absurd (omega (arith, size, l))
suffix (x ∷ front) rest (y ∷ f) c b e l = suffix front rest f c b (cc) l

knows_cut : (look : CallId → Option Place) (ls : List (List CallId)) (j : ℕ) (l front rest : List CallId) → Knows look ls → slice_get ls j ≡ Some l → l ≡ front ++ rest → Knows look (slice_set ls j rest)
knows_cut look ls j l front rest k e f = record {
  known = λ i a c b g. elim (same_or i j) [
    | inl same ↦ (
        let here : Some rest ≡ Some (a ++ c ∷ b) = sym (set_here ls j l rest e) ∙ subst (λ i. slice_get (slice_set ls j rest) i ≡ Some (a ++ c ∷ b)) same g in
        let was : l ≡ (front ++ a) ++ c ∷ b = f ∙ ap (λ r. front ++ r) (some_inj rest (a ++ c ∷ b) here) ∙ sym (append_assoc front a (c ∷ b)) in
        k.known j (front ++ a) c b (e ∙ ap Some was) ∙ ap (λ n. Some (at n (length b))) (sym same)
        )
    | inr other ↦ k.known i a c b (sym (set_there ls j i rest other) ∙ g)
  ];
  whose = λ c p g. let r = k.whose c p g in elim (same_or p.sequence j) [
    | inl same ↦ (
        let here : slice_get (slice_set ls j rest) p.sequence ≡ Some rest = subst (λ i. slice_get (slice_set ls j rest) i ≡ Some rest) (sym same) (set_here ls j l rest e) in
        let was : r.0 ≡ l = some_inj r.0 l (sym r.1 ∙ subst (λ i. slice_get ls i ≡ Some l) (sym same) e) in
        let size : length r.0 ≡ length front + length rest = ap length (was ∙ f) ∙ length-append front rest in (
          rest,
          here,
          λ less. let s = r.2 (omega (arith, less, size)) in
              let t = suffix front rest s.0 c s.1 (sym (was ∙ f) ∙ s.2) (omega (arith, less, s.3)) in (t.0, s.1, t.1, s.3),
        )
        )
    | inr other ↦ (r.0, set_there ls j p.sequence rest other ∙ r.1, r.2)
  ];
}
  where
    same_or : (i j : ℕ) → (i ≡ j) ⊎ (i ≡ j → ⊥)
    same_or zero zero = inl refl
    same_or zero (suc j) = inr (λ e. omega (arith, e))
    same_or (suc i) zero = inr (λ e. omega (arith, e))
    same_or (suc i) (suc j) = elim (same_or i j) [ inl e ↦ inl (ap suc e) | inr f ↦ inr (λ e. f (omega (arith, e))) ]

-- ---- what is given at an answer
module _ (d : CallId) where
  none_has : (ss : List SequenceOf) (ls : List (List CallId)) → ((i : ℕ) (l : List CallId) → slice_get ls i ≡ Some l → has d l ≡ false)
      → (given_through d (left_of ss ls) ≡ []) × (left_behind d (left_of ss ls) ≡ left_of ss ls)
  none_has [] ls f = (refl, refl)
  none_has (s ∷ ss) [] f = (refl, refl)
  none_has (s ∷ ss) (l ∷ ls) f =
      let r = none_has ss ls (λ i. f (suc i)) in
      let e = f 0 l refl in (
        ap (λ t. if t then through d l else given_through d (left_of ss ls)) e ∙ r.0,
        ap (λ t. if t then record s { calls = behind d l } ∷ left_of ss ls else record s { calls = l } ∷ left_behind d (left_of ss ls)) e ∙ ap (λ t. record s { calls = l } ∷ t) r.1,
      )

  one_has : (ss : List SequenceOf) (ls : List (List CallId)) (j : ℕ) (l : List CallId) → length ls ≡ length ss → slice_get ls j ≡ Some l → has d l ≡ true
      → ((i : ℕ) (k : List CallId) → i < j → slice_get ls i ≡ Some k → has d k ≡ false)
      → (given_through d (left_of ss ls) ≡ through d l) × (left_behind d (left_of ss ls) ≡ left_of ss (slice_set ls j (behind d l)))
  one_has ss [] j l size e t f = absurd (none-some l e)
  one_has [] (k ∷ ls) j l size e t f = absurd (omega (arith, size))
  one_has (s ∷ ss) (k ∷ ls) zero l size e t f =
      let same : k ≡ l = some_inj k l e in
      let here : has d k ≡ true = ap (has d) same ∙ t in (
        ap (λ t. if t then through d k else given_through d (left_of ss ls)) here ∙ ap (through d) same,
        ap (λ t. if t then record s { calls = behind d k } ∷ left_of ss ls else record s { calls = k } ∷ left_behind d (left_of ss ls)) here
            ∙ ap (λ l. record s { calls = behind d l } ∷ left_of ss ls) same,
      )
  one_has (s ∷ ss) (k ∷ ls) (suc j) l size e t f =
      let r = one_has ss ls j l (omega (arith, size)) e t (λ i x less. f (suc i) x (omega (arith, less))) in
      let h = f 0 k (omega arith) refl in (
        ap (λ t. if t then through d k else given_through d (left_of ss ls)) h ∙ r.0,
        ap (λ t. if t then record s { calls = behind d k } ∷ left_of ss ls else record s { calls = k } ∷ left_behind d (left_of ss ls)) h ∙ ap (λ t. record s { calls = k } ∷ t) r.1,
      )

got_or : {A : Type 0} (xs : List A) (i : ℕ) (a d : A) → slice_get xs i ≡ Some a → get_or xs i d ≡ a
got_or [] i a d e = absurd (none-some a e)
got_or (x ∷ xs) zero a d e = some_inj x a e
got_or (x ∷ xs) (suc i) a d e = got_or xs i a d e

set_same : {A : Type 0} (xs : List A) (i : ℕ) (a : A) → slice_get xs i ≡ Some a → slice_set xs i a ≡ xs
set_same [] i a e = absurd (none-some a e)
set_same (x ∷ xs) zero a e = ap (λ x. x ∷ xs) (sym (some_inj x a e))
set_same (x ∷ xs) (suc i) a e = ap (λ l. x ∷ l) (set_same xs i a e)

-- an answered call that has no place is in none of what is left
pub unknown_gives : (look : CallId → Option Place) (ss : List SequenceOf) (ls : List (List CallId)) (d : CallId) → Knows look ls → look d ≡ None
    → (given_through d (left_of ss ls) ≡ []) × (left_behind d (left_of ss ls) ≡ left_of ss ls)
unknown_gives look ss ls d k none =
    none_has d ss ls (λ i l e. no_true (has d l) (λ t. let r = first_split d l t in none-some (at i (length r.back)) (sym none ∙ k.known i r.front d r.back (e ∙ ap Some r.whole))))

-- one that has a place gives what is left up to there
pub record Gives (look : CallId → Option Place) (ss : List SequenceOf) (ls new : List (List CallId)) (d : CallId) (given : List CallId) : Type 0 where
  pub given_is : given_through d (left_of ss ls) ≡ given
  pub left_is : left_behind d (left_of ss ls) ≡ left_of ss new
  pub knows : Knows look new

abbrev Given : (CallId → Option Place) → List SequenceOf → List (List CallId) → CallId → Place → List CallId → ℕ → Type 0
Given look ss ls d p calls count = Gives look ss ls (slice_set ls p.sequence (drop count calls)) d (take count calls)

module _ (look : CallId → Option Place) (ss : List SequenceOf) (ls : List (List CallId)) (d : CallId) (p : Place) (k : Knows look ls) (size : length ls ≡ length ss) (is : look d ≡ Some p) where
  -- which list has the call
  has_place : (i : ℕ) (l : List CallId) → slice_get ls i ≡ Some l → (t : has d l ≡ true) → p ≡ at i (length (first_split d l t).back)
  has_place i l e t =
      let r = first_split d l t in
      some_inj p (at i (length r.back)) (sym is ∙ k.known i r.front d r.back (e ∙ ap Some r.whole))

  gives_now : (l : List CallId) → slice_get ls p.sequence ≡ Some l → has d l ≡ true → Given look ss ls d p l (length l - p.behind)
  gives_now l e t =
      let r = first_split d l t in
      let behind_is : p.behind ≡ length r.back = ap (λ (p : Place). p.behind) (has_place p.sequence l e t) in
      let whole : l ≡ (r.front ++ d ∷ []) ++ r.back = r.whole ∙ sym (append_assoc r.front (d ∷ []) r.back) in
      let long : length l ≡ length (r.front ++ d ∷ []) + length r.back = ap length whole ∙ length-append (r.front ++ d ∷ []) r.back in
      let count : length l - p.behind ≡ length (r.front ++ d ∷ []) = omega (arith, long, behind_is) in
      let taken : take (length l - p.behind) l ≡ r.front ++ d ∷ [] = (λ i. take (count i) (whole i)) ∙ take-append_seam (r.front ++ d ∷ []) r.back in
      let left : drop (length l - p.behind) l ≡ r.back = (λ i. drop (count i) (whole i)) ∙ drop-append_seam (r.front ++ d ∷ []) r.back in
      let one = one_has d ss ls p.sequence l size e t
      (λ i m less there. no_true (has d m) (λ u. let same : p.sequence ≡ i = ap (λ (p : Place). p.sequence) (has_place i m there u) in omega (arith, less, same))) in
      record {
        given_is = one.0 ∙ r.through_is ∙ sym taken;
        left_is = one.1 ∙ ap (λ m. left_of ss (slice_set ls p.sequence m)) (r.behind_is ∙ sym left);
        knows = subst (λ m. Knows look (slice_set ls p.sequence m)) (sym left) (knows_cut look ls p.sequence l (r.front ++ d ∷ []) r.back k e whole);
      }

  -- a call that was given gives nothing more
  gives_none : (l : List CallId) → slice_get ls p.sequence ≡ Some l → has d l ≡ false → Given look ss ls d p l 0
  gives_none l e none =
      let rest = none_has d ss ls (λ i m there. no_true (has d m) (λ u.
      let same : p.sequence ≡ i = ap (λ (p : Place). p.sequence) (has_place i m there u) in
      let here : m ≡ l = some_inj m l (sym there ∙ ap (slice_get ls) (sym same) ∙ e) in
      true≢false (sym u ∙ ap (has d) here ∙ none))) in
      let same = set_same ls p.sequence l e in
      record {
        given_is = rest.0;
        left_is = rest.1 ∙ ap (left_of ss) (sym same);
        knows = subst (Knows look) (sym same) k;
      }

  pub place_gives : (let calls = get_or ls p.sequence [] in Given look ss ls d p calls (length calls - p.behind))
  place_gives =
      let w = k.whose d p is in
      let l = w.0 in
      let calls : get_or ls p.sequence [] ≡ l = got_or ls p.sequence l [] w.1 in
      subst (λ calls. Given look ss ls d p calls (length calls - p.behind)) (sym calls) (elim (has d l) as (λ t. has d l ≡ t → Given look ss ls d p l (length l - p.behind)) [
        | true ↦ λ t. gives_now l w.1 t
        | false ↦ λ t. elim (length l - p.behind) as (λ n. length l - p.behind ≡ n → Given look ss ls d p l n) [
          | zero ↦ λ e. gives_none l w.1 t
          | suc n ↦ λ e.
              let less : p.behind < length l = omega (arith, e) in
              let s = w.2 less in
              absurd (true≢false (sym (has_true d l (subst (Member d) (sym s.2) (member_middle d s.0 s.1))) ∙ t))
        ] refl
      ] refl)

-- ---- the walk through the answers
left_of-first : (ss : List SequenceOf) → left_of ss (calls_of ss) ≡ ss
left_of-first [] = refl
left_of-first (s ∷ ss) = ap (λ l. s ∷ l) (left_of-first ss)

left_of-all : (ss : List SequenceOf) (ls : List (List CallId)) → length ls ≡ length ss → all_calls (left_of ss ls) ≡ joined ls
left_of-all [] [] e = refl
left_of-all [] (l ∷ ls) e = absurd (omega (arith, e))
left_of-all (s ∷ ss) [] e = absurd (omega (arith, e))
left_of-all (s ∷ ss) (l ∷ ls) e = ap (λ t. l ++ t) (left_of-all ss ls (omega (arith, e)))

calls_of-length : (ss : List SequenceOf) → length (calls_of ss) ≡ length ss
calls_of-length [] = refl
calls_of-length (s ∷ ss) = ap suc (calls_of-length ss)

set-length : {A : Type 0} (xs : List A) (i : ℕ) (a : A) → length (slice_set xs i a) ≡ length xs
set-length [] i a = refl
set-length (x ∷ xs) zero a = refl
set-length (x ∷ xs) (suc i) a = ap suc (set-length xs i a)

-- what is given, and then the order of what is left, is the order of all
pub record SoFar (look : CallId → Option Place) (h : List Event) (ss : List SequenceOf) (given : List CallId) (ls : List (List CallId)) (es : List Event) : Type 0 where
  pub order : given ++ order_from (left_of ss ls) es ≡ order_of h ss
  pub knows : Knows look ls
  pub size : length ls ≡ length ss

pub so_far_first : (look : CallId → Option Place) (h : List Event) (ss : List SequenceOf) (given : List CallId) (ls : List (List CallId)) (es : List Event) → NoTwice (all_calls ss)
    → ((c : CallId) → look c ≡ all_noted 0 ss c None) → given ≡ [] → ls ≡ calls_of ss → es ≡ h → SoFar look h ss given ls es
unfolding order_of
so_far_first look h ss given ls es twice is none e all = record {
  order = (λ i. none i ++ order_from (left_of ss (e i)) (all i)) ∙ ap (λ s. order_from s h) (left_of-first ss);
  knows = subst (Knows look) (sym e) (knows_first ss look twice is);
  size = ap length e ∙ calls_of-length ss;
}

pub so_far_call : (look : CallId → Option Place) (h : List Event) (ss : List SequenceOf) (given : List CallId) (ls : List (List CallId)) (d : CallId) (p : Op) (es : List Event)
    → SoFar look h ss given ls (event.Call d p ∷ es) → SoFar look h ss given ls es
unfolding order_from
so_far_call look h ss given ls d p es so = record { order = so.order; knows = so.knows; size = so.size }

pub so_far_unknown : (look : CallId → Option Place) (h : List Event) (ss : List SequenceOf) (given : List CallId) (ls : List (List CallId)) (d : CallId) (a : Answer) (es : List Event) → look d ≡ None
    → SoFar look h ss given ls (event.Answer d a ∷ es) → SoFar look h ss given ls es
unfolding order_from
so_far_unknown look h ss given ls d a es none so =
    let r = unknown_gives look ss ls d so.knows none in
    record { order = (λ i. given ++ (sym r.0 i ++ order_from (sym r.1 i) es)) ∙ so.order; knows = so.knows; size = so.size }

pub so_far_given : (look : CallId → Option Place) (h : List Event) (ss : List SequenceOf) (given : List CallId) (ls : List (List CallId)) (d : CallId) (a : Answer) (es : List Event) (p : Place)
    (more : List CallId) (new : List (List CallId)) → look d ≡ Some p → SoFar look h ss given ls (event.Answer d a ∷ es)
    → (let calls = get_or ls p.sequence [] in more ≡ given ++ take (length calls - p.behind) calls)
    → (let calls = get_or ls p.sequence [] in new ≡ slice_set ls p.sequence (drop (length calls - p.behind) calls)) → SoFar look h ss more new es
unfolding order_from
so_far_given look h ss given ls d a es p more new is so m n =
    let calls = get_or ls p.sequence [] in
    let count = length calls - p.behind in
    let r = place_gives look ss ls d p so.knows so.size is in
    record {
      order = (λ i. m i ++ order_from (left_of ss (n i)) es) ∙ append_assoc given (take count calls) _ ∙ (λ i. given ++ (sym r.given_is i ++ order_from (sym r.left_is i) es)) ∙ so.order;
      knows = subst (Knows look) (sym n) r.knows;
      size = ap length n ∙ set-length ls p.sequence (drop count calls) ∙ so.size;
    }

pub so_far_last : (look : CallId → Option Place) (h : List Event) (ss : List SequenceOf) (given : List CallId) (ls : List (List CallId)) (es : List Event) → SoFar look h ss given ls es → length es ≡ 0
    → given ++ joined ls ≡ order_of h ss
unfolding order_from
so_far_last look h ss given ls [] so e = ap (λ t. given ++ t) (sym (left_of-all ss ls so.size)) ∙ so.order
so_far_last look h ss given ls (x ∷ es) so e = absurd (omega (arith, e))

-- ---- lists that are pointed to
lists-push : (ls : List (Bor (List CallId))) (x : Bor (List CallId)) → lists (ls ++ x ∷ []) ≡ lists ls ++ x.now ∷ []
lists-push [] x = refl
lists-push (l ∷ ls) x = ap (λ t. l.now ∷ t) (lists-push ls x)

pub lists-set : (ls : List (Bor (List CallId))) (i : ℕ) (x : Bor (List CallId)) → lists (slice_set ls i x) ≡ slice_set (lists ls) i x.now
lists-set [] i x = refl
lists-set (l ∷ ls) zero x = refl
lists-set (l ∷ ls) (suc i) x = ap (λ t. l.now ∷ t) (lists-set ls i x)

pub lists-get : (ls : List (Bor (List CallId))) (i : ℕ) (x : Bor (List CallId)) → i < length ls → x ≡ get_or ls i x → x.now ≡ get_or (lists ls) i []
lists-get [] i x l e = absurd (omega (arith, l))
lists-get (b ∷ ls) zero x l e = ap (λ (b : Bor (List CallId)). b.now) e
lists-get (b ∷ ls) (suc i) x l e = lists-get ls i x (omega (arith, l)) e

pub lists-length : (ls : List (Bor (List CallId))) → length (lists ls) ≡ length ls
lists-length [] = refl
lists-length (l ∷ ls) = ap suc (lists-length ls)

take-map : {A B : Type 0} (f : A → B) (xs : List A) (i : ℕ) (a : A) → i < length xs → a ≡ get_or xs i a → take (i + 1) (map f xs) ≡ take i (map f xs) ++ f a ∷ []
take-map f [] i a l e = absurd (omega (arith, l))
take-map f (x ∷ xs) zero a l e = ap (λ a. f a ∷ []) (sym e)
take-map f (x ∷ xs) (suc i) a l e =
    let one : suc i + 1 ≡ suc (i + 1) = omega arith in
    ap (λ n. take n (map f (x ∷ xs))) one ∙ ap (λ t. f x ∷ t) (take-map f xs i a (omega (arith, l)) e)

pub left_more : (ss : List SequenceOf) (i : ℕ) (s : SequenceOf) (old new : List (Bor (List CallId))) (x : Bor (List CallId)) → lists old ≡ take i (calls_of ss) → i < length ss → s ≡ get_or ss i s
    → new ≡ old ++ x ∷ [] → x.now ≡ s.calls → lists new ≡ take (i + 1) (calls_of ss)
left_more ss i s old new x so l e n c =
    ap lists n ∙ lists-push old x ∙ (λ j. so j ++ c j ∷ []) ∙ sym (take-map (λ (s : SequenceOf). s.calls) ss i s l e)

joined-push : (ls : List (List CallId)) (l : List CallId) → joined (ls ++ l ∷ []) ≡ joined ls ++ l
joined-push [] l = append-nil l
joined-push (k ∷ ls) l = ap (λ t. k ++ t) (joined-push ls l) ∙ sym (append_assoc k (joined ls) l)

pub joined_more : (ls : List (Bor (List CallId))) (i : ℕ) (x : Bor (List CallId)) (start old new : List CallId) → old ≡ start ++ joined (take i (lists ls)) → i < length ls → x ≡ get_or ls i x
    → new ≡ old ++ x.now → new ≡ start ++ joined (take (i + 1) (lists ls))
joined_more ls i x start old new so l e n =
    n ∙ ap (λ t. t ++ x.now) so ∙ append_assoc start (joined (take i (lists ls))) x.now
    ∙ ap (λ t. start ++ t) (sym (joined-push (take i (lists ls)) x.now) ∙ ap joined (sym (take-map (λ (b : Bor (List CallId)). b.now) ls i x l e)))

-- a place is one of a list that is there
pub place_there : (look : CallId → Option Place) (h : List Event) (ss : List SequenceOf) (given : List CallId) (ls : List (Bor (List CallId))) (es : List Event) (d : CallId) (p : Place)
    → SoFar look h ss given (lists ls) es → look d ≡ Some p → p.sequence < length ls
place_there look h ss given ls es d p so is =
    let w = so.knows.whose d p is in
    let l : p.sequence < length (lists ls) = there_below (lists ls) p.sequence w.0 w.1 in
    omega (arith, l, lists-length ls)
