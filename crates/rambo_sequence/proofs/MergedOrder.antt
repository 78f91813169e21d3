-- One order of the calls of all keys is proper where the order of each key is
use Rattle.std.proofs.Common.{◌≡◌, ◌⊎◌, ℕ, ◌<◌, ◌≤◌, Bool, true, false, cond, if◌then◌else◌, List, [], ◌∷◌, ◌++◌, filter, Option, Some, None, is_some, bytes_eq, refl, sym, ap, ◌∙◌, subst, inl, inr, ⊎_elim, arith, true≢false, append_assoc}
use Rattle.std.specs.Prelude.{IsSome, fold}
use Rattle.std.specs.Option.{IsSomeAnd}
use Rattle.std.proofs.lemmas.Bool.Decides.{nat_tests}
use Rattle.rambo_tag.proofs.Keys.{bytes_eq-true, bytes_eq-itself}
use Rattle.rambo_history.specs.declared.operation.Op.{Op}
use Rattle.rambo_history.specs.declared.operation.Op.TheVariants as op
use Rattle.rambo_history.specs.declared.event.CallId.{CallId}
use Rattle.rambo_history.specs.declared.event.Event.{Event}
use Rattle.rambo_history.specs.declared.event.Event.TheVariants as event
use Rattle.rambo_history.specs.declared.operation.Answer.{Answer}
use Rattle.rambo_history.specs.Calls.{key_of, is_get, answer_for, same_call}
use Rattle.rambo_history.specs.Forms.{IsWellFormed}
use Rattle.rambo_history.specs.Histories.{call_in, answer_in, answered_at, called_at, answered_before, is_before}
use Rattle.rambo_history.specs.Proper.{Stands, IsProper, IsDistinct, KeepsRealTime, IsProperForAll, after_op}
use Rattle.rambo_history.proofs.Asked.{some_and, call_kept, answered_called}
use Rattle.rambo_history.proofs.Pushes.{same_call-path}
use Rattle.rambo_history.proofs.AnsweredBefore.{answered_before-places}
use Rattle.rambo_history.proofs.Splits.{splits-tail}
use Rattle.rambo_sequence.specs.Sequences.{SequenceOf, sequence_in}
use Rattle.rambo_sequence.proofs.Members.{Member, pick, none-some, member_middle, member_stands, stands_member, member_cases}
use Rattle.rambo_sequence.proofs.GivenOrder.{cut}
use Rattle.rambo_sequence.specs.StoreOrders.{AreApart, NoTwice, all_calls, IsLeft, IsFirstAnswered, IsOrder}

-- ---- sequences of which one has lost its front
-- no two sequences are of one key
abbrev pub Apart : List SequenceOf → Type 0
Apart [] = Unit {0}
Apart (s ∷ ss) = ((t : SequenceOf) → Member t ss → bytes_eq s.key t.key ≡ false) × Apart ss

swap_member : (front : List SequenceOf) (s : SequenceOf) (back : List SequenceOf) (rest : List CallId) (t : SequenceOf) → Member t (front ++ cut s rest ∷ back) → Member t (front ++ s ∷ back) ⊎ (cut s rest ≡ t)
swap_member [] s back rest t m = elim m [ inl e ↦ inr e | inr r ↦ inl (inr r) ]
swap_member (x ∷ front) s back rest t m = elim m [ inl e ↦ inl (inl e) | inr r ↦ ⊎_elim (λ a. inl (inr a)) inr (swap_member front s back rest t r) ]

apart_cut : (front : List SequenceOf) (s : SequenceOf) (back : List SequenceOf) (rest : List CallId) → Apart (front ++ s ∷ back) → Apart (front ++ cut s rest ∷ back)
apart_cut [] s back rest a = (a.0, a.1)
apart_cut (x ∷ front) s back rest a = (
  λ t m. elim (swap_member front s back rest t m) [
    | inl k ↦ a.0 t k
    | inr e ↦ subst (λ (t : SequenceOf). bytes_eq x.key t.key ≡ false) e (a.0 s (member_middle s front back))
  ],
  apart_cut front s back rest a.1,
)

-- the sequence of a key among them
in_front : (front : List SequenceOf) (s : SequenceOf) (back : List SequenceOf) (key : List ℕ) → Apart (front ++ s ∷ back) → bytes_eq s.key key ≡ true → sequence_in (front ++ s ∷ back) key ≡ s.calls
in_front [] s back key a e = ap (λ t. if t then s.calls else sequence_in back key) e
in_front (x ∷ front) s back key a e =
    let other : bytes_eq x.key key ≡ false = subst (λ k. bytes_eq x.key k ≡ false) (bytes_eq-true s.key key e) (a.0 s (member_middle s front back)) in
    ap (λ t. if t then x.calls else sequence_in (front ++ s ∷ back) key) other ∙ in_front front s back key a.1 e

in_others : (front : List SequenceOf) (s : SequenceOf) (back : List SequenceOf) (rest : List CallId) (key : List ℕ) → bytes_eq s.key key ≡ false → sequence_in (front ++ s ∷ back) key ≡ sequence_in (front ++ cut s rest ∷ back) key
in_others [] s back rest key e = ap (λ t. if t then s.calls else sequence_in back key) e ∙ sym (ap (λ t. if t then rest else sequence_in back key) e)
in_others (x ∷ front) s back rest key e = ap (λ r. if bytes_eq x.key key then x.calls else r) (in_others front s back rest key e)

all_over : (ss : List SequenceOf) (key : List ℕ) → ((t : SequenceOf) → Member t ss → t.calls ≡ []) → sequence_in ss key ≡ []
all_over [] key o = refl
all_over (s ∷ ss) key o = elim (pick (bytes_eq s.key key) s.calls (sequence_in ss key)) [
  | inl p ↦ p.1 ∙ o s (inl refl)
  | inr p ↦ p.1 ∙ all_over ss key (λ t m. o t (inr m))
]

-- ---- calls of a key
-- whether there is an operation, and it is of the key
abbrev is_of_key : List ℕ → Option Op → Bool
is_of_key key None = false
is_of_key key (Some op) = bytes_eq (key_of op) key

other_key : (o : Option Op) (a b : List ℕ) → is_of_key a o ≡ true → bytes_eq a b ≡ false → is_of_key b o ≡ false
other_key None a b h e = refl
other_key (Some p) a b h e = ap (λ k. bytes_eq k b) (bytes_eq-true (key_of p) a h) ∙ e

same_key : (o : Option Op) (a b : List ℕ) → is_of_key a o ≡ true → bytes_eq a b ≡ true → is_of_key b o ≡ true
same_key o a b h e = subst (λ k. is_of_key k o ≡ true) (bytes_eq-true a b e) h

filter-middle : (p : CallId → Bool) (front : List CallId) (c : CallId) (back : List CallId) → p c ≡ true → filter p (front ++ c ∷ back) ≡ filter p front ++ c ∷ filter p back
filter-middle p [] c back e = ap (λ t. cond t (c ∷ filter p back) (filter p back)) e
filter-middle p (x ∷ front) c back e = elim (pick (p x) (x ∷ filter p (front ++ c ∷ back)) (filter p (front ++ c ∷ back))) [
  | inl q ↦ q.1 ∙ ap (λ r. x ∷ r) (filter-middle p front c back e) ∙ ap (λ t. cond t (x ∷ filter p front) (filter p front) ++ c ∷ filter p back) (sym q.0)
  | inr q ↦ q.1 ∙ filter-middle p front c back e ∙ ap (λ t. cond t (x ∷ filter p front) (filter p front) ++ c ∷ filter p back) (sym q.0)
]

filter-member : (p : CallId → Bool) (xs : List CallId) (c : CallId) → p c ≡ true → Member c xs → Member c (filter p xs)
filter-member p [] c e m = absurd m
filter-member p (x ∷ xs) c e m = elim (pick (p x) (x ∷ filter p xs) (filter p xs)) [
  | inl q ↦ subst (Member c) (sym q.1) (elim m [ inl i ↦ inl i | inr r ↦ inr (filter-member p xs c e r) ])
  | inr q ↦ subst (Member c) (sym q.1) (elim m [ inl i ↦ absurd (true≢false (sym e ∙ ap p (sym i) ∙ q.0)) | inr r ↦ filter-member p xs c e r ])
]

member-filter : (p : CallId → Bool) (xs : List CallId) (c : CallId) → Member c (filter p xs) → Member c xs
member-filter p [] c m = absurd m
member-filter p (x ∷ xs) c m = elim (pick (p x) (x ∷ filter p xs) (filter p xs)) [
  | inl q ↦ elim (subst (Member c) q.1 m) [ inl i ↦ inl i | inr r ↦ inr (member-filter p xs c r) ]
  | inr q ↦ inr (member-filter p xs c (subst (Member c) q.1 m))
]

-- whether one place is there and stands before another
abbrev precedes : Option ℕ → Option ℕ → Bool
precedes o None = false
precedes o (Some n) = is_before n o

before : (o p : Option ℕ) → precedes o p ≡ true → (m : ℕ) × (n : ℕ) × (o ≡ Some m) × (p ≡ Some n) × (m < n)
before None None e = absurd (true≢false (sym e))
before None (Some n) e = absurd (true≢false (sym e))
before (Some m) None e = absurd (true≢false (sym e))
before (Some m) (Some n) e = (m, n, refl, refl, grind (arith, nat_tests))

after : (m n : ℕ) (o p : Option ℕ) → o ≡ Some m → p ≡ Some n → m < n → precedes o p ≡ true
after m n o p e f h = ap (λ o. precedes o p) e ∙ ap (precedes (Some m)) f ∙ grind (arith, nat_tests)

module _ (h : List Event) where
  abbrev of_key : List ℕ → CallId → Bool
  of_key key c = is_of_key key (call_in h c)

  -- what holds of the sequences, and of what is left of them
  pub record Kept (ss : List SequenceOf) : Type 0 where
    pub own : (t : SequenceOf) (d : CallId) → Member t ss → Member d t.calls → of_key t.key d ≡ true
    pub real : (t : SequenceOf) → Member t ss → KeepsRealTime h t.calls
    pub apart : Apart ss

  abbrev InTime : List CallId → CallId → List CallId → Type 0
  InTime front c back = (d : CallId) → Stands back d → ¬ (answered_before h d c ≡ true)

  tail_in_time : (c : CallId) (rest : List CallId) → KeepsRealTime h (c ∷ rest) → KeepsRealTime h rest
  tail_in_time c rest k = λ front x back e. k (c ∷ front) x back (ap (λ r. c ∷ r) e)

  kept_cut : (front : List SequenceOf) (s : SequenceOf) (back : List SequenceOf) (c : CallId) (rest : List CallId) → Kept (front ++ s ∷ back) → s.calls ≡ c ∷ rest → Kept (front ++ cut s rest ∷ back)
  kept_cut front s back c rest k e = record {
    own = λ t d m i. elim (swap_member front s back rest t m) [
      | inl q ↦ k.own t d q i
      | inr q ↦ subst (λ (t : SequenceOf). of_key t.key d ≡ true) q (k.own s d (member_middle s front back) (subst (Member d) (sym e) (inr (subst (λ (t : SequenceOf). Member d t.calls) (sym q) i))))
    ];
    real = λ t m. elim (swap_member front s back rest t m) [
      | inl q ↦ k.real t q
      | inr q ↦ subst (λ (t : SequenceOf). KeepsRealTime h t.calls) q (tail_in_time c rest (subst (KeepsRealTime h) e (k.real s (member_middle s front back))))
    ];
    apart = apart_cut front s back rest k.apart;
  }

  abbrev Left : List SequenceOf → CallId → Type 0
  Left ss d = (t : SequenceOf) × Member t ss × Member d t.calls

  is_left : (ss : List SequenceOf) (d : CallId) → Left ss d → IsLeft ss d
  is_left ss d l = (l.0, stands_member l.0 ss l.1, stands_member d l.0.calls l.2)

  -- each entry of an order is left at first
  entry_left : (order : List CallId) (ss : List SequenceOf) (d : CallId) → IsOrder h ss order → Member d order → Left ss d
  entry_left [] ss d o m = absurd m
  entry_left (c ∷ cs) ss d o m =
      let front = o.0 in
      let s = o.1 in
      let back = o.2 in
      let rest = o.3 in
      let here : Member s ss = subst (Member s) (sym o.4) (member_middle s front back) in
      elim m [
        | inl i ↦ (s, here, subst (Member d) (sym o.5) (inl i))
        | inr r ↦ (let l = entry_left cs (front ++ cut s rest ∷ back) d o.7 r in
            elim (swap_member front s back rest l.0 l.1) [
              | inl q ↦ (l.0, subst (Member l.0) (sym o.4) q, l.2)
              | inr q ↦ (s, here, subst (Member d) (sym o.5) (inr (subst (λ (t : SequenceOf). Member d t.calls) (sym q) l.2)))
            ])
      ]

  -- the entries of a key are its sequence
  pub entries_of : (order : List CallId) (ss : List SequenceOf) (key : List ℕ) → Kept ss → IsOrder h ss order → filter (of_key key) order ≡ sequence_in ss key
  entries_of [] ss key k o = sym (all_over ss key (λ t m. o t (stands_member t ss m)))
  entries_of (c ∷ cs) ss key k o =
      let front = o.0 in
      let s = o.1 in
      let back = o.2 in
      let rest = o.3 in
      let k' = subst Kept o.4 k in
      let later = entries_of cs (front ++ cut s rest ∷ back) key (kept_cut front s back c rest k' o.5) o.7 in
      let own : of_key s.key c ≡ true = k'.own s c (member_middle s front back) (subst (Member c) (sym o.5) (inl refl)) in
      elim (pick (bytes_eq s.key key) s.calls s.calls) [
        | inl p ↦
            ap (λ t. cond t (c ∷ filter (of_key key) cs) (filter (of_key key) cs)) (same_key (call_in h c) s.key key own p.0)
            ∙ ap (λ r. c ∷ r) (later ∙ in_front front (cut s rest) back key (apart_cut front s back rest k'.apart) p.0)
            ∙ sym o.5 ∙ sym (in_front front s back key k'.apart p.0) ∙ ap (λ ss. sequence_in ss key) (sym o.4)
        | inr p ↦
            ap (λ t. cond t (c ∷ filter (of_key key) cs) (filter (of_key key) cs)) (other_key (call_in h c) s.key key own p.0)
            ∙ later ∙ sym (in_others front s back rest key p.0) ∙ ap (λ ss. sequence_in ss key) (sym o.4)
      ]

  -- what was answered before a call was made doesn't stand behind it
  in_time : IsWellFormed h → ((c : CallId) → answered_before h c c ≡ true → ⊥) → (front : List CallId) (c : CallId) (back : List CallId) (ss : List SequenceOf) (d : CallId)
      → Kept ss → IsOrder h ss (front ++ c ∷ back) → Member d back → answered_before h d c ≡ true → ⊥
  in_time w self [] c back ss d k o m b =
      let s = o.1 in
      let left : Left ss d = entry_left (c ∷ back) ss d o (inr m) in
      let p = before (answered_at h d) (called_at h c) (sym (answered_before-places h w.calls_once d c) ∙ b) in
      elim o.6 [
        | inl r ↦ (
            let f : IsFirstAnswered h ss r.0 = r.2 in
            let le : f.place ≤ p.0 = f.first d p.0 (is_left ss d left) p.2 in
            let b' : answered_before h r.0 c ≡ true = answered_before-places h w.calls_once r.0 c ∙ after f.place p.1 (answered_at h r.0) (called_at h c) f.answered p.3 (omega (arith, le, p.4)) in
            elim (subst (Member r.0) o.5 (member_stands r.0 s.calls r.1)) [
              | inl i ↦ self c (subst (λ m. answered_before h m c ≡ true) (sym i) b')
              | inr i ↦ k.real s (subst (Member s) (sym o.4) (member_middle s o.0 o.2)) [] c o.3 o.5 r.0 (stands_member r.0 o.3 i) b'
            ]
            )
        | inr r ↦ none-some p.0 (sym (r.unanswered d (is_left ss d left)) ∙ p.2)
      ]
  in_time w self (x ∷ front) c back ss d k o m b =
      in_time w self front c back (o.0 ++ cut o.1 o.3 ∷ o.2) d (kept_cut o.0 o.1 o.2 x o.3 (subst Kept o.4 k) o.5) o.7 m b

  -- what a key holds after the entries of all keys
  held_along : (key : List ℕ) (xs : List CallId) (held : Option (List ℕ))
      → fold (λ held c. after_op key (call_in h c) held) held (filter (of_key key) xs) ≡ fold (λ held c. after_op key (call_in h c) held) held xs
  held_along key [] held = refl
  held_along key (x ∷ xs) held = elim (pick (of_key key x) (x ∷ filter (of_key key) xs) (filter (of_key key) xs)) [
    | inl p ↦ ap (fold (λ held c. after_op key (call_in h c) held) held) p.1 ∙ held_along key xs (after_op key (call_in h x) held)
    | inr p ↦ ap (fold (λ held c. after_op key (call_in h c) held) held) p.1 ∙ held_along key xs held
        ∙ ap (λ held. fold (λ held c. after_op key (call_in h c) held) held xs) (sym (unmoved (call_in h x) p.0))
  ]
    where
      unmoved : (o : Option Op) → is_of_key key o ≡ false → after_op key o held ≡ held
      unmoved None e = refl
      unmoved (Some (op.Get k)) e = refl
      unmoved (Some (op.Set k value)) e = ap (λ t. if t then Some value else held) e

  key_itself : (o : Option Op) (p : Op) → o ≡ Some p → is_of_key (key_of p) o ≡ true
  key_itself o p e = ap (is_of_key (key_of p)) e ∙ bytes_eq-itself (key_of p)

  split_of : (order : List CallId) (ss : List SequenceOf) (front : List CallId) (c : CallId) (back : List CallId) (key : List ℕ) → Kept ss → IsOrder h ss order → order ≡ front ++ c ∷ back → of_key key c ≡ true
      → sequence_in ss key ≡ filter (of_key key) front ++ c ∷ filter (of_key key) back
  split_of order ss front c back key k o e own =
      sym (entries_of order ss key k o) ∙ ap (filter (of_key key)) e ∙ filter-middle (of_key key) front c back own

-- ---- histories
found_call : (es : List Event) (c : CallId) → is_some (call_in es c) ≡ true → (front : List Event) × (d : CallId) × (p : Op) × (back : List Event) × (es ≡ front ++ event.Call d p ∷ back) × (d ≡ c)
found_call [] c e = absurd (true≢false (sym e))
found_call (event.Call d p ∷ es) c e = elim (pick (same_call d c) (Some p) (call_in es c)) [
  | inl q ↦ ([], d, p, es, refl, same_call-path d c q.0)
  | inr q ↦ (let r = found_call es c (ap is_some (sym q.1) ∙ e) in (event.Call d p ∷ r.0, r.1, r.2, r.3, ap (λ l. event.Call d p ∷ l) r.4, r.5))
]
found_call (event.Answer d a ∷ es) c e = let r = found_call es c e in (event.Answer d a ∷ r.0, r.1, r.2, r.3, ap (λ l. event.Answer d a ∷ l) r.4, r.5)

found_before : (es : List Event) (c d : CallId) → answered_before es c d ≡ true → (front : List Event) × (x : CallId) × (a : Answer) × (back : List Event) × (es ≡ front ++ event.Answer x a ∷ back) × (x ≡ c) × (is_some (call_in back d) ≡ true)
found_before [] c d e = absurd (true≢false (sym e))
found_before (event.Call x p ∷ es) c d e = let r = found_before es c d e in (event.Call x p ∷ r.0, r.1, r.2, r.3, ap (λ l. event.Call x p ∷ l) r.4, r.5, r.6)
found_before (event.Answer x a ∷ es) c d e = elim (pick (same_call x c) (is_some (call_in es d)) (answered_before es c d)) [
  | inl q ↦ ([], x, a, es, refl, same_call-path x c q.0, sym q.1 ∙ e)
  | inr q ↦ (let r = found_before es c d (sym q.1 ∙ e) in (event.Answer x a ∷ r.0, r.1, r.2, r.3, ap (λ l. event.Answer x a ∷ l) r.4, r.5, r.6))
]

-- a call wasn't answered before it was made
not_before_itself : (h : List Event) → IsWellFormed h → (c : CallId) → answered_before h c c ≡ true → ⊥
not_before_itself h w c b =
    let r = found_before h c c b in
    let made = some_and _ (call_in r.0 r.1) ((w.answers_open r.0 (event.Answer r.1 r.2) r.3 r.4 r.1 r.2 refl).0) in
    let k = found_call r.3 c r.6 in
    let front : List Event = r.0 ++ event.Answer r.1 r.2 ∷ k.0 in
    let whole : h ≡ front ++ event.Call k.1 k.2 ∷ k.3 = r.4 ∙ ap (λ l. r.0 ++ event.Answer r.1 r.2 ∷ l) k.4 ∙ sym (append_assoc r.0 (event.Answer r.1 r.2 ∷ k.0) (event.Call k.1 k.2 ∷ k.3)) in
    let none : call_in front c ≡ None = subst (λ d. call_in front d ≡ None) k.5 (w.calls_once front (event.Call k.1 k.2) k.3 whole k.1 k.2 refl) in
    let some : call_in front c ≡ Some made.0 = call_kept r.0 (event.Answer r.1 r.2 ∷ k.0) c made.0 (subst (λ d. call_in r.0 d ≡ Some made.0) r.5 made.1) in
    none-some made.0 (sym none ∙ some)

some_is : {A : Type 0} (o : Option A) → IsSome o → (a : A) × (o ≡ Some a)
some_is None i = absurd (true≢false (sym i))
some_is (Some a) i = (a, refl)

own_from : (o : Option Op) (key : List ℕ) (p : Op) → o ≡ Some p → key_of p ≡ key → is_of_key key o ≡ true
own_from o key p e k = subst (λ key. is_of_key key o ≡ true) k (ap (is_of_key (key_of p)) e ∙ bytes_eq-itself (key_of p))

-- the sequence of a key that stands there
in_place : (ss : List SequenceOf) (t : SequenceOf) → Apart ss → Member t ss → sequence_in ss t.key ≡ t.calls
in_place [] t a m = absurd m
in_place (s ∷ ss) t a m = elim m [
  | inl e ↦ subst (λ (t : SequenceOf). sequence_in (s ∷ ss) t.key ≡ t.calls) e (ap (λ b. if b then s.calls else sequence_in ss s.key) (bytes_eq-itself s.key))
  | inr r ↦ ap (λ b. if b then s.calls else sequence_in ss t.key) (a.0 t r) ∙ in_place ss t a.1 r
]

apart_from : (ss : List SequenceOf) → AreApart ss → Apart ss
apart_from [] a = tt
apart_from (s ∷ ss) a = (λ t m. a.0 t (stands_member t ss m), apart_from ss a.1)

-- the order of all is proper
pub all_proper : (h : List Event) (ss : List SequenceOf) (order : List CallId) → IsWellFormed h → AreApart ss → ((key : List ℕ) → IsProper h key (sequence_in ss key)) → IsOrder h ss order → IsProperForAll h order
all_proper h ss order w are_apart proper o =
    let apart : Apart ss = apart_from ss are_apart in
    let each : (t : SequenceOf) → Member t ss → IsProper h t.key t.calls = λ t m. subst (IsProper h t.key) (in_place ss t apart m) (proper t.key) in
    let kept : Kept h ss = record {
      own = λ t d m i. let s = stands_member d t.calls i in let q = some_and _ (call_in h d) ((each t m).no_stranger s.0 d s.1 s.2) in own_from (call_in h d) t.key q.0 q.1 q.2.0;
      real = λ t m. (each t m).real_time;
      apart = apart;
    } in
    let key_at : (front : List CallId) (c : CallId) (back : List CallId) → order ≡ front ++ c ∷ back → (key : List ℕ) × (is_of_key key (call_in h c) ≡ true) =
    λ front c back e. let l = entry_left h order ss c o (subst (Member c) (sym e) (member_middle c front back)) in (l.0.key, kept.own l.0 c l.1 l.2) in
    record {
      complete = λ c i.
          let a = some_is (answer_in h c) i in
          let p = answered_called h w c a.0 a.1 in
          let s = (proper (key_of p.0)).complete c (subst (λ o. IsSomeAnd o (λ op. key_of op ≡ key_of p.0)) (sym p.1) refl) i in
          stands_member c order (member-filter (of_key h (key_of p.0)) order c (subst (Member c) (sym (entries_of h order ss (key_of p.0) kept o)) (member_stands c (sequence_in ss (key_of p.0)) s)));
      distinct = λ front c back e again.
          let k = key_at front c back e in
          (proper k.0).distinct (filter (of_key h k.0) front) c (filter (of_key h k.0) back) (split_of h order ss front c back k.0 kept o e k.1)
          (stands_member c (filter (of_key h k.0) back) (filter-member (of_key h k.0) back c k.1 (member_stands c back again)));
      no_stranger = λ front c back e.
          let k = key_at front c back e in
          let q = some_and _ (call_in h c) ((proper k.0).no_stranger (filter (of_key h k.0) front) c (filter (of_key h k.0) back) (split_of h order ss front c back k.0 kept o e k.1)) in
          subst (λ o. IsSomeAnd o (λ op. is_get op ≡ true → IsSome (answer_in h c))) (sym q.1) q.2.1;
      latest = λ front c back e key g.
          (proper key).latest (filter (of_key h key) front) c (filter (of_key h key) back) (split_of h order ss front c back key kept o e (key_itself h (call_in h c) (op.Get key) g)) key g
          ∙ ap (λ r. Some (answer_for r)) (held_along h key front None);
      real_time = λ front c back e d s b. in_time h w (not_before_itself h w) front c back ss d kept (subst (IsOrder h ss) e o) (member_stands d back s) b;
    }

-- ---- no call stands twice
no_twice_in : (cs : List CallId) → IsDistinct cs → NoTwice cs
no_twice_in [] d = tt
no_twice_in (c ∷ cs) d = (d [] c cs refl, no_twice_in cs (splits-tail (λ front c back. ¬ (Stands back c)) c cs d))

no_twice_both : (xs ys : List CallId) → NoTwice xs → NoTwice ys → ((c : CallId) → Member c xs → Member c ys → ⊥) → NoTwice (xs ++ ys)
no_twice_both [] ys n k apart = k
no_twice_both (x ∷ xs) ys n k apart = (
  λ s. elim (member_cases x xs ys (member_stands x (xs ++ ys) s)) [ inl m ↦ n.0 (stands_member x xs m) | inr m ↦ apart x (inl refl) m ],
  no_twice_both xs ys n.1 k (λ c m. apart c (inr m)),
)

in_one : (ss : List SequenceOf) (c : CallId) → Member c (all_calls ss) → (t : SequenceOf) × Member t ss × Member c t.calls
in_one [] c m = absurd m
in_one (s ∷ ss) c m = elim (member_cases c s.calls (all_calls ss) m) [
  | inl i ↦ (s, inl refl, i)
  | inr i ↦ (let r = in_one ss c i in (r.0, inr r.1, r.2))
]

module _ (h : List Event) where
  own_key : (t : SequenceOf) → IsProper h t.key t.calls → (c : CallId) → Member c t.calls → is_of_key t.key (call_in h c) ≡ true
  own_key t p c m =
      let s = stands_member c t.calls m in
      let q = some_and _ (call_in h c) (p.no_stranger s.0 c s.1 s.2) in
      own_from (call_in h c) t.key q.0 q.1 q.2.0

  none_twice : (ss : List SequenceOf) → Apart ss → ((t : SequenceOf) → Member t ss → IsProper h t.key t.calls) → NoTwice (all_calls ss)
  none_twice [] a each = tt
  none_twice (s ∷ ss) a each =
      no_twice_both s.calls (all_calls ss) (no_twice_in s.calls (each s (inl refl)).distinct) (none_twice ss a.1 (λ t m. each t (inr m)))
      (λ c i k.
      let r = in_one ss c k in
      true≢false (sym (own_key r.0 (each r.0 (inr r.1)) c r.2) ∙ other_key (call_in h c) s.key r.0.key (own_key s (each s (inl refl)) c i) (a.0 r.0 r.1)))

-- no call stands twice where the sequence of each key is proper
pub proper_once : (h : List Event) (ss : List SequenceOf) → AreApart ss → ((key : List ℕ) → IsProper h key (sequence_in ss key)) → NoTwice (all_calls ss)
proper_once h ss are_apart proper =
    let apart : Apart ss = apart_from ss are_apart in
    none_twice h ss apart (λ t m. subst (IsProper h t.key) (in_place ss t apart m) (proper t.key))
