-- The given sequence of a key is proper
use Rattle.std.proofs.Common.{◌≡◌, ℕ, zero, suc, ◌<◌, ◌⊎◌, true, false, List, [], ◌∷◌, ◌++◌, map, length, Option, Some, None, is_some, refl, sym, ap, ◌∙◌, subst, inl, inr, ⊎_elim, arith, true≢false, bytes_eq}
use Rattle.std.proofs.lemmas.Bool.{cond-true}
use Rattle.std.specs.Option.{IsSome, IsSomeAnd}
use Rattle.std.specs.List.{fold}
use Rattle.rambo_names.specs.Quorums.{QuorumSystem, IsSound}
use Rattle.rambo_tag.specs.Tags.{value_of}
use Rattle.rambo_tag.proofs.Keys.{bytes_eq-itself}
use Rattle.rambo_history.specs.declared.operation.Op.{Op}
use Rattle.rambo_history.specs.declared.operation.Op.TheVariants as op
use Rattle.rambo_history.specs.declared.event.CallId.{CallId}
use Rattle.rambo_history.specs.declared.event.Event.{Event}
use Rattle.rambo_history.specs.Calls.{key_of, is_get, answer_for}
use Rattle.rambo_history.specs.Histories.{call_in, answer_in, answered_before}
use Rattle.rambo_history.specs.Proper.{Stands, after_op, held_after, IsProper}
use Rattle.rambo_node.specs.Operations.{answer_of}
use Rattle.rambo_sequence.specs.declared.mark.Mark.{Mark}
use Rattle.rambo_sequence.specs.Sequences.{call_place, rank, sorted_marks, sequence_of}
use Rattle.rambo_run.specs.Worlds.{WorldState}
use Rattle.rambo_history.proofs.Asked.{some_and}
use Rattle.rambo_run.proofs.Lists.{pick, some_inj, Member, member_stands, stands_member, member_map, map_member, member_left, member_right, member_cases}
use Rattle.rambo_run.proofs.Events.{place_same}
use Rattle.rambo_run.proofs.Sights.{Worlds}
use Rattle.rambo_run.proofs.Books.{apart_same}
use Rattle.rambo_run.proofs.Tags.{FromMark, empty, marked, mark_from, set_value, set_tag, one_set}
use Rattle.rambo_run.proofs.Before.{books, see, mark_order, called_first}
use Rattle.rambo_run.proofs.Order.{MarkLt, lt_trans, lt_irrefl, lt_same, Differs, Sorted, sorted_split, sorted_has, sorted_sorted, sorted_front, sorted_back, sorted_left, nothing_between, set_not_above, none_below_none, lt_by_tag, lt_by_rank}

abbrev head_or : {A : Type 0} → A → List A → A
head_or a [] = a
head_or a (x ∷ xs) = x

abbrev tail_of : {A : Type 0} → List A → List A
tail_of [] = []
tail_of (x ∷ xs) = xs

nil-cons : {A : Type 0} (x : A) (xs : List A) → [] ≡ x ∷ xs → ⊥
nil-cons x xs e = let l : 0 ≡ suc (length xs) = ap length e in omega (arith, l)

-- a list of marks whose calls split so
pub record SplitMarks (ms : List Mark) (front : List CallId) (c : CallId) (back : List CallId) : Type 0 where
  pub before : List Mark
  pub mark : Mark
  pub behind : List Mark
  pub whole : ms ≡ before ++ mark ∷ behind
  pub front_is : map (λ m. m.id) before ≡ front
  pub id : mark.id ≡ c
  pub back_is : map (λ m. m.id) behind ≡ back

split_marks : (ms : List Mark) (front : List CallId) (c : CallId) (back : List CallId) → map (λ m. m.id) ms ≡ front ++ c ∷ back → SplitMarks ms front c back
split_marks [] [] c back e = absurd (nil-cons c back e)
split_marks [] (d ∷ front) c back e = absurd (nil-cons d (front ++ c ∷ back) e)
split_marks (m ∷ ms) [] c back e = record { before = []; mark = m; behind = ms; whole = refl; front_is = refl; id = ap (head_or c) e; back_is = ap tail_of e }
split_marks (m ∷ ms) (d ∷ front) c back e =
    let r = split_marks ms front c back (ap tail_of e) in
    let h : m.id ≡ d = ap (head_or d) e in
    record { before = m ∷ r.before; mark = r.mark; behind = r.behind; whole = λ i. m ∷ r.whole i; front_is = λ i. h i ∷ r.front_is i; id = r.id; back_is = r.back_is }

is_some_of : {A : Type 0} (o : Option A) → IsSome o → (a : A) × (o ≡ Some a)
is_some_of None h = absurd (true≢false (sym h))
is_some_of (Some a) h = (a, refl)

-- what the calls of these marks leave of a key
abbrev left_by : List Event → List ℕ → Option (List ℕ) → List CallId → Option (List ℕ)
left_by h key held cs = fold (λ held c. after_op key (call_in h c) held) held cs

-- a mark of the key, as the history has it
pub record Known (h : List Event) (key : List ℕ) (m : Mark) : Type 0 where
  pub called : call_in h m.id ≡ Some m.op
  pub of_key : key_of m.op ≡ key
  pub value : (k v : List ℕ) → m.op ≡ op.Set k v → value_of m.kept ≡ Some v

-- the last set among marks, or none, and what they leave
data Last (h : List Event) (ms : List Mark) (held left : Option (List ℕ)) : Type 0 where
  no_set : ((x : Mark) → Member x ms → is_get x.op ≡ true) → left ≡ held → Last h ms held left
  last_set : (w : Mark) → Member w ms → is_get w.op ≡ false → left ≡ value_of w.kept → ((x : Mark) → Member x ms → is_get x.op ≡ false → (w ≡ x) ⊎ MarkLt h x w) → Last h ms held left

one_left : (h : List Event) (key : List ℕ) (m : Mark) (held : Option (List ℕ)) (o : Op) → Known h key m → m.op ≡ o
    → ((is_get m.op ≡ true) × (after_op key (call_in h m.id) held ≡ held)) ⊎ ((is_get m.op ≡ false) × (after_op key (call_in h m.id) held ≡ value_of m.kept))
one_left h key m held (op.Get k) f e = inl (ap is_get e, ap (λ p. after_op key p held) (f.called ∙ ap Some e))
one_left h key m held (op.Set k v) f e =
    let same : k ≡ key = sym (ap key_of e) ∙ f.of_key in
    inr (ap is_get e, ap (λ p. after_op key p held) (f.called ∙ ap Some e) ∙ cond-true (bytes_eq k key) (Some v) held (ap (λ k. bytes_eq k key) same ∙ bytes_eq-itself key) ∙ sym (f.value k v e))

last_of : (h : List Event) (key : List ℕ) (ms : List Mark) → Sorted h ms → ((m : Mark) → Member m ms → Known h key m) → (held : Option (List ℕ)) → Last h ms held (left_by h key held (map (λ m. m.id) ms))
last_of h key [] s f held = no_set (λ x i. absurd i) refl
last_of h key (a ∷ ms) s f held =
    let next = after_op key (call_in h a.id) held in
    elim (last_of h key ms s.1 (λ m i. f m (inr i)) next) [
      | no_set n e ↦ elim (one_left h key a held a.op (f a (inl refl)) refl) [
        | inl g ↦ no_set (λ x i. ⊎_elim (λ q. ap (λ x. is_get x.op) (sym q) ∙ g.0) (λ j. n x j) i) (e ∙ g.1)
        | inr g ↦ last_set a (inl refl) g.0 (e ∙ g.1) (λ x i w. ⊎_elim inl (λ j. absurd (true≢false (sym (n x j) ∙ w))) i)
      ]
      | last_set w i g e c ↦ last_set w (inr i) g e (λ x j q. ⊎_elim (λ r. inr (subst (λ a. MarkLt h a w) r (s.0 w i))) (λ j. c x j q) j)
    ]

set_rank : (h : List Event) (k : Mark) → is_get k.op ≡ false → rank h k ≡ 0
set_rank h k g = elim (pick (is_get k.op) (suc (call_place k.id h)) zero) [ inl p ↦ absurd (true≢false (sym p.0 ∙ g)) | inr p ↦ p.1 ]

module _ {Q : Type 0} (s : QuorumSystem Q) (law : IsSound s) (founders : Q) (world : ℕ → WorldState Q) (worlds : Worlds s founders world) where
  abbrev hist : ℕ → List Event
  hist m = (world m).history

  -- marks of a key of two calls differ in what the order sees
  pub differs : (m : ℕ) (a b : Mark) → Member a (world m).marks → Member b (world m).marks → key_of a.op ≡ key_of b.op → (b.id ≡ a.id → ⊥) → Differs (hist m) a b
  differs m a b i j e n t r =
      let bk = books s law founders world worlds m in
      elim (pick (is_get a.op) (suc (call_place a.id (hist m))) zero) [
        | inl x ↦ elim (pick (is_get b.op) (suc (call_place b.id (hist m))) zero) [
          | inl y ↦ (let z : suc (call_place a.id (hist m)) ≡ suc (call_place b.id (hist m)) = sym x.1 ∙ r ∙ y.1 in
              n (sym (place_same (hist m) a.id b.id a.op b.op (bk.mark_called a i) (bk.mark_called b j) (omega (arith, z)))))
          | inr y ↦ (let z : suc (call_place a.id (hist m)) ≡ zero = sym x.1 ∙ r ∙ y.1 in omega (arith, z))
        ]
        | inr x ↦ elim (pick (is_get b.op) (suc (call_place b.id (hist m))) zero) [
          | inl y ↦ (let z : zero ≡ suc (call_place b.id (hist m)) = sym x.1 ∙ r ∙ y.1 in omega (arith, z))
          | inr y ↦ n (sym (one_set s founders world worlds m a b i j x.0 y.0 (e, t)))
        ]
      ]

  -- the marks of a key in order
  abbrev S : ℕ → List ℕ → List Mark
  S m key = sorted_marks (hist m) key (world m).marks

  of_key : (m : ℕ) (key : List ℕ) (k : Mark) → Member k (S m key) → Member k (world m).marks × (key_of k.op ≡ key)
  of_key m key k i = sorted_split (hist m) key k (world m).marks i

  one_of : (m : ℕ) (key : List ℕ) (a b : Mark) → Member a (S m key) → Member b (S m key) → b.id ≡ a.id → a ≡ b
  one_of m key a b i j o = apart_same (world m).marks a b (books s law founders world worlds m).apart (of_key m key a i).0 (of_key m key b j).0 o

  in_order : (m : ℕ) (key : List ℕ) → Sorted (hist m) (S m key)
  in_order m key = sorted_sorted (hist m) key (world m).marks (books s law founders world worlds m).apart (λ a b i j e f n. differs m a b i j (e ∙ sym f) n)

  known : (m : ℕ) (key : List ℕ) (k : Mark) → Member k (S m key) → Known (hist m) key k
  known m key k i =
      let r = of_key m key k i in
      record { called = (books s law founders world worlds m).mark_called k r.0; of_key = r.1; value = λ q v e. set_value s founders world worlds m k q v r.0 e }

  -- what was answered before another's call is less
  answered_less : (m : ℕ) (key : List ℕ) (k b : Mark) → Member k (S m key) → Member b (S m key) → answered_before (hist m) k.id b.id ≡ true → MarkLt (hist m) k b
  answered_less m key k b i j l =
      let x = of_key m key k i in
      let y = of_key m key b j in
      let f = mark_order s law founders world worlds m k b x.0 y.0 (x.1 ∙ sym y.1) l in
      let first = called_first s law founders world worlds m k.id b.id l in
      elim (pick (is_get b.op) (suc (call_place b.id (hist m))) zero) [
        | inr w ↦ lt_by_tag (hist m) k b (f.set w.0)
        | inl w ↦
            (let less : rank (hist m) k < rank (hist m) b = elim (pick (is_get k.op) (suc (call_place k.id (hist m))) zero) [ inl v ↦ omega (arith, v.1, w.1, first) | inr v ↦ omega (arith, v.1, w.1) ] in
            lt_by_rank (hist m) k b (f.get w.0) less)
      ]

  -- a get's value is what the last set before it left
  get_value : (m : ℕ) (key : List ℕ) (front : List Mark) (r : Mark) (back : List Mark) (left : Option (List ℕ)) → S m key ≡ front ++ r ∷ back → is_get r.op ≡ true
      → FromMark (see s law founders world worlds m) (key_of r.op) r.kept → Last (hist m) front None left → left ≡ value_of r.kept
  get_value m key front r back left e g f l =
      let sorted : Sorted (hist m) (front ++ r ∷ back) = subst (Sorted (hist m)) e (in_order m key) in
      let inside : (k : Mark) → Member k (front ++ r ∷ back) → Member k (S m key) = λ k i. subst (Member k) (sym e) i in
      let below : (k : Mark) → Member k front → MarkLt (hist m) k r = sorted_front (hist m) front r back sorted in
      let key_is : key_of r.op ≡ key = (of_key m key r (inside r (member_right r front (r ∷ back) (inl refl)))).1 in
      elim f [
        | empty n ↦ elim l [
          | no_set a q ↦ q ∙ sym (ap value_of n)
          | last_set w i h q c ↦ absurd
              (none_below_none (hist m) w r n (set_tag s founders world worlds m w (of_key m key w (inside w (member_left w front (r ∷ back) i))).0 h).positive (below w i))
        ]
        | marked k j h kk q ↦
            (let here : Member k (front ++ r ∷ back) = subst (Member k) e (sorted_has (hist m) key k (world m).marks j (kk ∙ key_is)) in
            elim (member_cases k front (r ∷ back) here) [
              | inl i ↦ elim l [
                | no_set a p ↦ absurd (true≢false (sym (a k i) ∙ h))
                | last_set w i' h' p c ↦ elim (c k i h) [
                  | inl same ↦ p ∙ ap (λ k. value_of k.kept) same ∙ ap value_of q
                  | inr lt ↦ absurd (nothing_between (hist m) k w r q (set_rank (hist m) w h') lt (below w i'))
                ]
              ]
              | inr i ↦ elim i [
                | inl same ↦ absurd (true≢false (sym g ∙ ap (λ k. is_get k.op) same ∙ h))
                | inr i' ↦ absurd (set_not_above (hist m) k r q (set_rank (hist m) k h) (sorted_back (hist m) front r back sorted k i'))
              ]
            ])
      ]

  mark_of_call : (m : ℕ) (key : List ℕ) (k : Mark) (c : CallId) (o : Op) → Member k (S m key) → k.id ≡ c → call_in (hist m) c ≡ Some o → k.op ≡ o
  mark_of_call m key k c o i e h = some_inj k.op o (sym (known m key k i).called ∙ ap (call_in (hist m)) e ∙ h)

  -- a mark of the list, from where it stands
  there : (m : ℕ) (key : List ℕ) (front : List CallId) (c : CallId) (back : List CallId) (p : SplitMarks (S m key) front c back) → Member p.mark (S m key)
  there m key front c back p = subst (Member p.mark) (sym p.whole) (member_right p.mark p.before (p.mark ∷ p.behind) (inl refl))

  behind : (m : ℕ) (key : List ℕ) (front : List CallId) (c : CallId) (back : List CallId) (p : SplitMarks (S m key) front c back) (d : CallId) → Stands back d
      → (k : Mark) × Member k (S m key) × (k.id ≡ d) × MarkLt (hist m) p.mark k
  behind m key front c back p d st =
      let r = member_map (λ m. m.id) d p.behind (subst (Member d) (sym p.back_is) (member_stands d back st)) in (
        r.0,
        subst (Member r.0) (sym p.whole) (member_right r.0 p.before (p.mark ∷ p.behind) (inr r.1)),
        r.2,
        sorted_back (hist m) p.before p.mark p.behind (subst (Sorted (hist m)) p.whole (in_order m key)) r.0 r.1,
      )

  answers_latest : (m : ℕ) (key k : List ℕ) (front : List CallId) (c : CallId) (back : List CallId) (p : SplitMarks (S m key) front c back) → call_in (hist m) c ≡ Some (op.Get k)
      → answer_in (hist m) c ≡ Some (answer_for (held_after (hist m) k front))
  answers_latest m key k front c back p h =
      let r = p.mark in
      let i = there m key front c back p in
      let o : r.op ≡ op.Get k = mark_of_call m key r c (op.Get k) i p.id h in
      let q = of_key m key r i in
      let same : key ≡ k = sym q.1 ∙ ap key_of o in
      let sorted : Sorted (hist m) (p.before ++ r ∷ p.behind) = subst (Sorted (hist m)) p.whole (in_order m key) in
      let last = last_of (hist m) key p.before (sorted_left (hist m) p.before (r ∷ p.behind) sorted) (λ a j. known m key a (subst (Member a) (sym p.whole) (member_left a p.before (r ∷ p.behind) j))) None in
      let value = get_value m key p.before r p.behind (left_by (hist m) key None (map (λ m. m.id) p.before)) p.whole (ap is_get o) (mark_from s founders world worlds m r q.0) last in
      let left : left_by (hist m) key None (map (λ m. m.id) p.before) ≡ held_after (hist m) k front = λ t. left_by (hist m) (same t) None (p.front_is t) in
      ap (answer_in (hist m)) (sym p.id) ∙ (books s law founders world worlds m).mark_answered r q.0 (ap is_get o)
      ∙ ap (λ o. Some (answer_of o r.kept)) o ∙ ap (λ v. Some (answer_for v)) (sym value ∙ left)

  -- the headline, at every moment
  pub proper : (m : ℕ) (key : List ℕ) → IsProper (hist m) key (sequence_of (hist m) (world m).marks key)
  unfolding sequence_of
  proper m key = record {
    complete = λ c call answer.
        let o = some_and (λ o. key_of o ≡ key) (call_in (hist m) c) call in
        let a = is_some_of (answer_in (hist m) c) answer in
        let r = (books s law founders world worlds m).answered_mark c a.0 a.1 in
        let k = r.0 in
        let same : k.op ≡ o.0 = some_inj k.op o.0 (sym ((books s law founders world worlds m).mark_called k r.1) ∙ ap (call_in (hist m)) r.2 ∙ o.1) in
        let i : Member k (S m key) = sorted_has (hist m) key k (world m).marks r.1 (ap key_of same ∙ o.2) in
        stands_member c (map (λ m. m.id) (S m key)) (subst (λ c. Member c (map (λ m. m.id) (S m key))) r.2 (map_member (λ m. m.id) k (S m key) i));
    distinct = λ front c back e st.
        let p = split_marks (S m key) front c back e in
        let b = behind m key front c back p c st in
        lt_same (hist m) p.mark b.0 (one_of m key p.mark b.0 (there m key front c back p) b.1 (b.2 ∙ sym p.id)) b.3;
    no_stranger = λ front c back e.
        let p = split_marks (S m key) front c back e in
        let q = of_key m key p.mark (there m key front c back p) in
        subst (λ c. IsSomeAnd (call_in (hist m) c) (λ o. (key_of o ≡ key) × (is_get o ≡ true → IsSome (answer_in (hist m) c)))) p.id
        (subst (λ t. IsSomeAnd t (λ o. (key_of o ≡ key) × (is_get o ≡ true → IsSome (answer_in (hist m) p.mark.id)))) (sym ((books s law founders world worlds m).mark_called p.mark q.0))
        (q.1, λ g. ap is_some ((books s law founders world worlds m).mark_answered p.mark q.0 g)));
    latest = λ front c back e k h. answers_latest m key k front c back (split_marks (S m key) front c back e) h;
    real_time = λ front c back e d st l.
        let p = split_marks (S m key) front c back e in
        let b = behind m key front c back p d st in
        let i = there m key front c back p in
        let before : answered_before (hist m) b.0.id p.mark.id ≡ true = (λ t. answered_before (hist m) (b.2 t) (p.id t)) ∙ l in
        lt_irrefl (hist m) p.mark (lt_trans (hist m) p.mark b.0 p.mark b.3 (answered_less m key b.0 p.mark b.1 i before));
  }
