-- The calls, answers and marks of a world fit each other
use Rattle.std.proofs.Common.{◌≡◌, ℕ, ◌+◌, ◌≤◌, ◌⊎◌, true, false, nat_eq, List, [], ◌∷◌, ◌++◌, Option, Some, None, refl, sym, ap, ◌∙◌, subst, inl, inr, ⊎_elim, arith, eqb-true, eq-eqb, true≢false}
use Rattle.std.proofs.lemmas.Bool.{cases_lt, cond-true, eqb-false}
use Rattle.rambo_tag.specs.declared.version.Version.{Version}
use Rattle.rambo_history.specs.declared.operation.Op.{Op}
use Rattle.rambo_history.specs.declared.operation.Op.TheVariants as op
use Rattle.rambo_history.specs.declared.operation.Answer.{Answer}
use Rattle.rambo_history.specs.declared.event.CallId.{CallId}
use Rattle.rambo_history.specs.declared.event.Event.{Event}
use Rattle.rambo_history.specs.declared.event.Event.TheVariants as event
use Rattle.rambo_history.specs.Calls.{is_get}
use Rattle.rambo_history.specs.Histories.{call_in, answer_in}
use Rattle.rambo_phase.specs.Phases.{started}
use Rattle.rambo_calls.specs.declared.stage.Stage.TheVariants.{Query, Propagation}
use Rattle.rambo_calls.specs.Calls.{CallState, propagates, kept_in}
use Rattle.rambo_node.specs.Nodes.{NodeState}
use Rattle.rambo_node.specs.Operations.{called, taken, query_answered, call_closed, answer_of}
use Rattle.rambo_sequence.specs.declared.mark.Mark.{Mark}
use Rattle.rambo_run.proofs.Deeds.{id_of, with_set, with_get}
use Rattle.rambo_run.proofs.Lists.{pick, none-some, Member, member_more, member_left, member_last, member_put, member_out}
use Rattle.rambo_run.proofs.Numbers.{Numbered}
use Rattle.rambo_run.proofs.Events.{none_or_some, call_kept, answer_kept, call_last, answer_last, call_split, answer_split, call_still, answer_still}
use Rattle.rambo_run.proofs.Seen.{Seen, seen_called, seen_queried, seen_answered, mark_of, SameCall}

-- no call is marked twice
abbrev pub Apart : List Mark → Type 0
Apart [] = Unit {0}
Apart (k ∷ ks) = ((l : Mark) → Member l ks → l.id ≡ k.id → ⊥) × Apart ks

pub apart_more : (k : Mark) (ks : List Mark) → Apart ks → ((l : Mark) → Member l ks → l.id ≡ k.id → ⊥) → Apart (ks ++ k ∷ [])
apart_more k [] a h = (λ l i. absurd i, tt)
apart_more k (j ∷ ks) a h = (λ l i o. elim (member_more l k ks i) [ inl m ↦ a.0 l m o | inr e ↦ h j (inl refl) (sym o ∙ ap (λ k. k.id) (sym e)) ], apart_more k ks a.1 (λ l m. h l (inr m)))

pub apart_same : (ks : List Mark) (k l : Mark) → Apart ks → Member k ks → Member l ks → l.id ≡ k.id → k ≡ l
apart_same [] k l a i j o = absurd i
apart_same (m ∷ ks) k l a i j o = elim i [
  | inl e ↦ elim j [ inl f ↦ sym e ∙ f | inr g ↦ absurd (a.0 l g (o ∙ ap (λ k. k.id) (sym e))) ]
  | inr h ↦ elim j [
    | inl f ↦ absurd (a.0 k h (sym o ∙ ap (λ k. k.id) (sym f)))
    | inr g ↦ apart_same ks k l a.1 h g o
  ]
]

-- each open call was called and not answered, each mark is of a call, and each answer has its mark
pub record Book {Q : Type 0} (v : Seen Q) : Type 0 where
  pub called : (n : ℕ) (c : CallState Q) → Member c (v.node n).calls → call_in v.history (id_of n c.number) ≡ Some c.op
  pub unanswered : (n : ℕ) (c : CallState Q) → Member c (v.node n).calls → (a : Answer) → answer_in v.history (id_of n c.number) ≡ Some a → ⊥
  pub unmarked : (n : ℕ) (c : CallState Q) → Member c (v.node n).calls → (is_get c.op ≡ true) ⊎ (propagates c.stage ≡ false) → (k : Mark) → Member k v.marks → k.id ≡ id_of n c.number → ⊥
  pub marked : (n : ℕ) (c : CallState Q) → Member c (v.node n).calls → propagates c.stage ≡ true → is_get c.op ≡ false → Member (mark_of n c (kept_in c.stage)) v.marks
  pub low : (n i : ℕ) (o : Op) → call_in v.history (id_of n i) ≡ Some o → i ≤ (v.node n).made
  pub mark_called : (k : Mark) → Member k v.marks → call_in v.history k.id ≡ Some k.op
  pub mark_answered : (k : Mark) → Member k v.marks → is_get k.op ≡ true → answer_in v.history k.id ≡ Some (answer_of k.op k.kept)
  pub answered_mark : (c : CallId) (a : Answer) → answer_in v.history c ≡ Some a → (k : Mark) × Member k v.marks × (k.id ≡ c) × (a ≡ answer_of k.op k.kept)
  pub all_called : (n i : ℕ) → 1 ≤ i → i ≤ (v.node n).made → (o : Op) × (call_in v.history (id_of n i) ≡ Some o)
  pub apart : Apart v.marks
  pub positive : (n : ℕ) (c : CallState Q) → Member c (v.node n).calls → 1 ≤ c.number

same_id : {Q : Type 0} (n : ℕ) (c d : CallState Q) → SameCall c d → id_of n d.number ≡ id_of n c.number
same_id n c d e = ap (id_of n) e.number

same_mark : {Q : Type 0} (n : ℕ) (c d : CallState Q) → SameCall c d → mark_of n c (kept_in c.stage) ≡ mark_of n d (kept_in d.stage)
same_mark n c d e = sym (λ j. record { id = id_of n (e.number j); op = e.op j; kept = kept_in (e.stage j) })

-- no call is opened, answered or moved on
pub book_same : {Q : Type 0} (v z : Seen Q) → Book v → z.history ≡ v.history → z.marks ≡ v.marks → ((n : ℕ) → (z.node n).made ≡ (v.node n).made)
    → ((n : ℕ) (d : CallState Q) → Member d (z.node n).calls → (c : CallState Q) × Member c (v.node n).calls × SameCall c d) → Book z
book_same {Q} v z b h m made from = record {
  called = λ n d i. let r = from n d i in (λ j. call_in (h j) (same_id n r.0 d r.2 j)) ∙ b.called n r.0 r.1 ∙ ap Some (sym r.2.op);
  unanswered = λ n d i a k. let r = from n d i in b.unanswered n r.0 r.1 a (sym (λ j. answer_in (h j) (same_id n r.0 d r.2 j)) ∙ k);
  unmarked = λ n d i g k j o. let r = from n d i in
      b.unmarked n r.0 r.1 (⊎_elim (λ e. inl (ap is_get (sym r.2.op) ∙ e)) (λ e. inr (ap propagates (sym r.2.stage) ∙ e)) g) k (subst (Member k) m j) (o ∙ same_id n r.0 d r.2);
  marked = λ n d i p g. let r = from n d i in
      subst (Member (mark_of n d (kept_in d.stage))) (sym m) (subst (λ x. Member x v.marks) (same_mark n r.0 d r.2) (b.marked n r.0 r.1 (ap propagates (sym r.2.stage) ∙ p) (ap is_get (sym r.2.op) ∙ g)));
  low = λ n i o k. omega (arith, b.low n i o (ap (λ h. call_in h (id_of n i)) (sym h) ∙ k), made n);
  mark_called = λ k i. ap (λ h. call_in h k.id) h ∙ b.mark_called k (subst (Member k) m i);
  mark_answered = λ k i g. ap (λ h. answer_in h k.id) h ∙ b.mark_answered k (subst (Member k) m i) g;
  answered_mark = λ c a k. let r = b.answered_mark c a (ap (λ h. answer_in h c) (sym h) ∙ k) in (r.0, subst (Member r.0) (sym m) r.1, r.2, r.3);
  all_called = λ n i p k. let r = b.all_called n i p (omega (arith, k, made n)) in (r.0, ap (λ h. call_in h (id_of n i)) h ∙ r.1);
  apart = subst Apart (sym m) b.apart;
  positive = λ n d i. let r = from n d i in omega (arith, b.positive n r.0 r.1, r.2.number);
}

-- the marks after a query, and after an answer
abbrev pub new_mark : ℕ → ℕ → Op → Option Version → Mark
new_mark n number o kept = record { id = id_of n number; op = o; kept = kept }

pub set_grows : (ks : List Mark) (n number : ℕ) (o : Op) (kept : Option Version) (k : Mark) → Member k ks → Member k (with_set ks n number o kept)
set_grows ks n number (op.Get key) kept k h = h
set_grows ks n number (op.Set key v) kept k h = member_left k ks (new_mark n number (op.Set key v) kept ∷ []) h

pub set_new : (ks : List Mark) (n number : ℕ) (o : Op) (kept : Option Version) → is_get o ≡ false → Member (new_mark n number o kept) (with_set ks n number o kept)
set_new ks n number (op.Get key) kept h = absurd (true≢false h)
set_new ks n number (op.Set key v) kept h = member_last (new_mark n number (op.Set key v) kept) ks

pub set_split : (ks : List Mark) (n number : ℕ) (o : Op) (kept : Option Version) (k : Mark) → Member k (with_set ks n number o kept) → Member k ks ⊎ ((is_get o ≡ false) × (new_mark n number o kept ≡ k))
set_split ks n number (op.Get key) kept k h = inl h
set_split ks n number (op.Set key v) kept k h = ⊎_elim inl (λ e. inr (refl, e)) (member_more k (new_mark n number (op.Set key v) kept) ks h)

set_apart : (ks : List Mark) (n number : ℕ) (o : Op) (kept : Option Version) → Apart ks → ((l : Mark) → Member l ks → l.id ≡ id_of n number → ⊥) → Apart (with_set ks n number o kept)
set_apart ks n number (op.Get key) kept a h = a
set_apart ks n number (op.Set key v) kept a h = apart_more (new_mark n number (op.Set key v) kept) ks a h

pub get_grows : (ks : List Mark) (n number : ℕ) (o : Op) (kept : Option Version) (k : Mark) → Member k ks → Member k (with_get ks n number o kept)
get_grows ks n number (op.Get key) kept k h = member_left k ks (new_mark n number (op.Get key) kept ∷ []) h
get_grows ks n number (op.Set key v) kept k h = h

pub get_new : (ks : List Mark) (n number : ℕ) (o : Op) (kept : Option Version) → is_get o ≡ true → Member (new_mark n number o kept) (with_get ks n number o kept)
get_new ks n number (op.Get key) kept h = member_last (new_mark n number (op.Get key) kept) ks
get_new ks n number (op.Set key v) kept h = absurd (true≢false (sym h))

pub get_split : (ks : List Mark) (n number : ℕ) (o : Op) (kept : Option Version) (k : Mark) → Member k (with_get ks n number o kept) → Member k ks ⊎ ((is_get o ≡ true) × (new_mark n number o kept ≡ k))
get_split ks n number (op.Get key) kept k h = ⊎_elim inl (λ e. inr (refl, e)) (member_more k (new_mark n number (op.Get key) kept) ks h)
get_split ks n number (op.Set key v) kept k h = inl h

get_apart : (ks : List Mark) (n number : ℕ) (o : Op) (kept : Option Version) → Apart ks → (is_get o ≡ true → (l : Mark) → Member l ks → l.id ≡ id_of n number → ⊥) → Apart (with_get ks n number o kept)
get_apart ks n number (op.Get key) kept a h = apart_more (new_mark n number (op.Get key) kept) ks a (h refl)
get_apart ks n number (op.Set key v) kept a h = a

pub get_cases : (o : Op) → (is_get o ≡ true) ⊎ (is_get o ≡ false)
get_cases (op.Get key) = inl refl
get_cases (op.Set key v) = inr refl

module _ {Q : Type 0} where
  abbrev pub new_call : NodeState Q → Op → CallState Q
  new_call x o = record { number = x.made + 1; op = o; stage = Query; phase = started (x.number + 1) x.map x.name }

  pub calls_split : (v : Seen Q) (n : ℕ) (o : Op) (j : ℕ) (d : CallState Q) → Member d ((seen_called v n o).node j).calls → Member d (v.node j).calls ⊎ ((j ≡ n) × (new_call (v.node n) o ≡ d))
  unfolding called
  calls_split v n o j d h = elim (pick (nat_eq j n) (called (v.node n) o) (v.node j)) [
    | inl p ↦ (let e : j ≡ n = eqb-true j n p.0 in ⊎_elim (λ m. inl (subst (λ j. Member d (v.node j).calls) (sym e) m)) (λ f. inr (e, f)) (member_more d (new_call (v.node n) o) (v.node n).calls (subst (λ x. Member d x.calls) p.1 h)))
    | inr p ↦ inl (subst (λ x. Member d x.calls) p.1 h)
  ]

  calls_made : (v : Seen Q) (n : ℕ) (o : Op) (j : ℕ) → (((seen_called v n o).node j).made ≡ (v.node j).made) ⊎ ((j ≡ n) × (((seen_called v n o).node j).made ≡ (v.node n).made + 1))
  unfolding called
  calls_made v n o j = elim (pick (nat_eq j n) (called (v.node n) o) (v.node j)) [ inl p ↦ inr (eqb-true j n p.0, ap (λ x. x.made) p.1) | inr p ↦ inl (ap (λ x. x.made) p.1) ]

  calls_up : (v : Seen Q) (n : ℕ) (o : Op) (j : ℕ) → (v.node j).made ≤ ((seen_called v n o).node j).made
  calls_up v n o j = elim (calls_made v n o j) [ inl e ↦ omega (arith, e) | inr p ↦ omega (arith, p.1, ap (λ j. (v.node j).made) p.0) ]

  own_made : (v : Seen Q) (n : ℕ) (o : Op) → ((seen_called v n o).node n).made ≡ (v.node n).made + 1
  unfolding called
  own_made v n o = ap (λ x. x.made) (cond-true (nat_eq n n) (called (v.node n) o) (v.node n) (eq-eqb n n refl))

  -- the next call of a node was never called
  pub next_new : (v : Seen Q) (n : ℕ) → Book v → call_in v.history (id_of n ((v.node n).made + 1)) ≡ None
  next_new v n b = elim (none_or_some (call_in v.history (id_of n ((v.node n).made + 1)))) [ inl e ↦ e | inr r ↦ absurd (let l = b.low n ((v.node n).made + 1) r.0 r.1 in omega (arith, l)) ]

  not_new : (v : Seen Q) (n : ℕ) → Book v → (k : Mark) → Member k v.marks → k.id ≡ id_of n ((v.node n).made + 1) → ⊥
  not_new v n b k i e = none-some k.op (sym (next_new v n b) ∙ ap (call_in v.history) (sym e) ∙ b.mark_called k i)

  new_id : (v : Seen Q) (n : ℕ) (o : Op) (j : ℕ) (d : CallState Q) → j ≡ n → new_call (v.node n) o ≡ d → id_of j d.number ≡ id_of n ((v.node n).made + 1)
  new_id v n o j d e f = λ i. id_of (e i) ((sym f i).number)

  pub book_calls : (v : Seen Q) (n : ℕ) (o : Op) → Book v → Book (seen_called v n o)
  book_calls v n o b =
      let z = seen_called v n o in
      let id : CallId = id_of n ((v.node n).made + 1) in
      let ev : Event = event.Call id o in
      let new = next_new v n b in
      let top : (z.node n).made ≡ (v.node n).made + 1 = own_made v n o in
      record {
        called = λ j d i. elim (calls_split v n o j d i) [
          | inl m ↦ call_kept v.history (ev ∷ []) (id_of j d.number) d.op (b.called j d m)
          | inr p ↦ ap (call_in z.history) (new_id v n o j d p.0 p.1) ∙ call_last v.history id o new ∙ ap (λ d. Some d.op) p.1
        ];
        unanswered = λ j d i a k. let h = sym (answer_still v.history id (id_of j d.number) o) ∙ k in elim (calls_split v n o j d i) [
          | inl m ↦ b.unanswered j d m a h
          | inr p ↦ (let r = b.answered_mark (id_of j d.number) a h in not_new v n b r.0 r.1 (r.2 ∙ new_id v n o j d p.0 p.1))
        ];
        unmarked = λ j d i g k m q. elim (calls_split v n o j d i) [
          | inl h ↦ b.unmarked j d h g k m q
          | inr p ↦ not_new v n b k m (q ∙ new_id v n o j d p.0 p.1)
        ];
        marked = λ j d i p g. elim (calls_split v n o j d i) [ inl m ↦ b.marked j d m p g | inr q ↦ absurd (true≢false (sym p ∙ sym (ap (λ d. propagates d.stage) q.1))) ];
        low = λ j i p k. elim (call_split v.history id (id_of j i) o p k) [
          | inl h ↦ omega (arith, b.low j i p h, calls_up v n o j)
          | inr e ↦ (let q : (v.node n).made + 1 ≡ i = ap (λ c. c.number) e.0 in let f : (z.node j).made ≡ (z.node n).made = ap (λ j. (z.node j).made) (sym (ap (λ c. c.name) e.0)) in omega (arith, q, top, f))
        ];
        mark_called = λ k i. call_kept v.history (ev ∷ []) k.id k.op (b.mark_called k i);
        mark_answered = λ k i g. answer_kept v.history (ev ∷ []) k.id (answer_of k.op k.kept) (b.mark_answered k i g);
        answered_mark = λ c a k. b.answered_mark c a (sym (answer_still v.history id c o) ∙ k);
        all_called = λ j i p k. elim (calls_made v n o j) [
          | inl e ↦ (let r = b.all_called j i p (omega (arith, k, e)) in (r.0, call_kept v.history (ev ∷ []) (id_of j i) r.0 r.1))
          | inr q ↦ elim (cases_lt (v.node n).made i) [
            | inl l ↦ (let e : i ≡ (v.node n).made + 1 = omega (arith, l, k, q.1) in
                (o, ap (call_in z.history) (λ t. id_of (q.0 t) (e t)) ∙ call_last v.history id o new))
            | inr l ↦ (let e : i ≤ (v.node j).made = subst (λ j. i ≤ (v.node j).made) (sym q.0) l in let r = b.all_called j i p e in (r.0, call_kept v.history (ev ∷ []) (id_of j i) r.0 r.1))
          ]
        ];
        apart = b.apart;
        positive = λ j d i. elim (calls_split v n o j d i) [ inl m ↦ b.positive j d m | inr p ↦ subst (λ d. 1 ≤ d.number) p.1 (omega arith) ];
      }

  abbrev pub moved_call : NodeState Q → CallState Q → CallState Q
  moved_call x c = record { number = c.number; op = c.op; stage = Propagation (taken x c.op); phase = started (x.number + 1) x.map x.name }

  pub query_split : (v : Seen Q) (n : ℕ) (c : CallState Q) → Numbered (v.node n) → (j : ℕ) (d : CallState Q) → Member d ((seen_queried v n c).node j).calls
      → (Member d (v.node j).calls × ((j ≡ n) → d.number ≡ c.number → ⊥)) ⊎ ((j ≡ n) × (moved_call (v.node n) c ≡ d))
  unfolding query_answered
  query_split v n c s j d h = elim (pick (nat_eq j n) (query_answered (v.node n) c) (v.node j)) [
    | inl p ↦ (let e : j ≡ n = eqb-true j n p.0 in elim (member_put c.number (moved_call (v.node n) c) d (v.node n).calls s.single (subst (λ x. Member d x.calls) p.1 h)) [
      | inl m ↦ inl (subst (λ j. Member d (v.node j).calls) (sym e) m.0, λ _. m.1)
      | inr r ↦ inr (e, r)
    ])
    | inr p ↦ inl (subst (λ x. Member d x.calls) p.1 h, λ e. absurd (eqb-false j n p.0 e))
  ]

  query_made : (v : Seen Q) (n : ℕ) (c : CallState Q) (j : ℕ) → ((seen_queried v n c).node j).made ≡ (v.node j).made
  unfolding query_answered
  query_made v n c j = elim (pick (nat_eq j n) (query_answered (v.node n) c) (v.node j)) [ inl p ↦ ap (λ x. x.made) p.1 ∙ ap (λ j. (v.node j).made) (sym (eqb-true j n p.0)) | inr p ↦ ap (λ x. x.made) p.1 ]

  moved_id : (v : Seen Q) (n : ℕ) (c : CallState Q) (j : ℕ) (d : CallState Q) → j ≡ n → moved_call (v.node n) c ≡ d → id_of j d.number ≡ id_of n c.number
  moved_id v n c j d e f = λ i. id_of (e i) ((sym f i).number)

  pub book_queries : (v : Seen Q) (n : ℕ) (c : CallState Q) → Numbered (v.node n) → Member c (v.node n).calls → propagates c.stage ≡ false → Book v → Book (seen_queried v n c)
  book_queries v n c s i q b =
      let z = seen_queried v n c in
      let kept = taken (v.node n) c.op in
      record {
        called = λ j d h. elim (query_split v n c s j d h) [
          | inl m ↦ b.called j d m.0
          | inr p ↦ ap (call_in v.history) (moved_id v n c j d p.0 p.1) ∙ b.called n c i ∙ ap (λ d. Some d.op) p.1
        ];
        unanswered = λ j d h a k. elim (query_split v n c s j d h) [ inl m ↦ b.unanswered j d m.0 a k | inr p ↦ b.unanswered n c i a (ap (answer_in v.history) (sym (moved_id v n c j d p.0 p.1)) ∙ k) ];
        unmarked = λ j d h g k m o. elim (query_split v n c s j d h) [
          | inl old ↦ elim (set_split v.marks n c.number c.op kept k m) [
            | inl l ↦ b.unmarked j d old.0 g k l o
            | inr e ↦ (let w : id_of n c.number ≡ id_of j d.number = ap (λ k. k.id) e.1 ∙ o in old.1 (sym (ap (λ c. c.name) w)) (sym (ap (λ c. c.number) w)))
          ]
          | inr p ↦ elim (set_split v.marks n c.number c.op kept k m) [
            | inl l ↦ b.unmarked n c i (inr q) k l (o ∙ moved_id v n c j d p.0 p.1)
            | inr e ↦ elim g [ inl f ↦ true≢false (sym f ∙ sym (ap (λ d. is_get d.op) p.1) ∙ e.0) | inr f ↦ true≢false (ap (λ d. propagates d.stage) p.1 ∙ f) ]
          ]
        ];
        marked = λ j d h p g. elim (query_split v n c s j d h) [
          | inl m ↦ set_grows v.marks n c.number c.op kept (mark_of j d (kept_in d.stage)) (b.marked j d m.0 p g)
          | inr r ↦ subst (λ d. Member (mark_of j d (kept_in d.stage)) z.marks) r.1
              (subst (λ j. Member (mark_of j (moved_call (v.node n) c) kept) z.marks) (sym r.0) (set_new v.marks n c.number c.op kept (ap (λ d. is_get d.op) r.1 ∙ g)))
        ];
        low = λ j i o k. omega (arith, b.low j i o k, query_made v n c j);
        mark_called = λ k h. elim (set_split v.marks n c.number c.op kept k h) [ inl m ↦ b.mark_called k m | inr e ↦ subst (λ k. call_in v.history k.id ≡ Some k.op) e.1 (b.called n c i) ];
        mark_answered = λ k h g. elim (set_split v.marks n c.number c.op kept k h) [ inl m ↦ b.mark_answered k m g | inr e ↦ absurd (true≢false (sym g ∙ sym (ap (λ k. is_get k.op) e.1) ∙ e.0)) ];
        answered_mark = λ d a h. let r = b.answered_mark d a h in (r.0, set_grows v.marks n c.number c.op kept r.0 r.1, r.2, r.3);
        all_called = λ j k p h. b.all_called j k p (omega (arith, h, query_made v n c j));
        apart = set_apart v.marks n c.number c.op kept b.apart (λ l m o. b.unmarked n c i (inr q) l m o);
        positive = λ j d h. elim (query_split v n c s j d h) [ inl m ↦ b.positive j d m.0 | inr p ↦ subst (λ d. 1 ≤ d.number) p.1 (b.positive n c i) ];
      }

  pub answer_left : (v : Seen Q) (n : ℕ) (c : CallState Q) → Numbered (v.node n) → (j : ℕ) (d : CallState Q) → Member d ((seen_answered v n c).node j).calls → Member d (v.node j).calls × ((j ≡ n) → d.number ≡ c.number → ⊥)
  unfolding call_closed
  answer_left v n c s j d h = elim (pick (nat_eq j n) (call_closed (v.node n) c) (v.node j)) [
    | inl p ↦ (let e : j ≡ n = eqb-true j n p.0 in let m = member_out c.number d (v.node n).calls s.single (subst (λ x. Member d x.calls) p.1 h) in (subst (λ j. Member d (v.node j).calls) (sym e) m.0, λ _. m.1))
    | inr p ↦ (subst (λ x. Member d x.calls) p.1 h, λ e. absurd (eqb-false j n p.0 e))
  ]

  answer_made : (v : Seen Q) (n : ℕ) (c : CallState Q) (j : ℕ) → ((seen_answered v n c).node j).made ≡ (v.node j).made
  unfolding call_closed
  answer_made v n c j = elim (pick (nat_eq j n) (call_closed (v.node n) c) (v.node j)) [ inl p ↦ ap (λ x. x.made) p.1 ∙ ap (λ j. (v.node j).made) (sym (eqb-true j n p.0)) | inr p ↦ ap (λ x. x.made) p.1 ]

  -- an open call has no answer
  pub open_call : (v : Seen Q) (n : ℕ) (c : CallState Q) → Member c (v.node n).calls → Book v → answer_in v.history (id_of n c.number) ≡ None
  open_call v n c i b = elim (none_or_some (answer_in v.history (id_of n c.number))) [ inl e ↦ e | inr r ↦ absurd (b.unanswered n c i r.0 r.1) ]

  pub book_answers : (v : Seen Q) (n : ℕ) (c : CallState Q) → Numbered (v.node n) → Member c (v.node n).calls → propagates c.stage ≡ true → Book v → Book (seen_answered v n c)
  book_answers v n c s i q b =
      let z = seen_answered v n c in
      let kept = kept_in c.stage in
      let id : CallId = id_of n c.number in
      let told : Answer = answer_of c.op kept in
      let ev : Event = event.Answer id told in
      let mark : Mark = mark_of n c kept in
      let still : (d : CallId) → call_in z.history d ≡ call_in v.history d = λ d. call_still v.history id d told in
      let is_marked : Member mark z.marks = elim (get_cases c.op) [ inl g ↦ get_new v.marks n c.number c.op kept g | inr g ↦ get_grows v.marks n c.number c.op kept mark (b.marked n c i q g) ] in
      record {
        called = λ j d h. let m = answer_left v n c s j d h in still (id_of j d.number) ∙ b.called j d m.0;
        unanswered = λ j d h a k. let m = answer_left v n c s j d h in elim (answer_split v.history id (id_of j d.number) told a k) [
          | inl o ↦ b.unanswered j d m.0 a o
          | inr e ↦ m.1 (sym (ap (λ c. c.name) e.0)) (sym (ap (λ c. c.number) e.0))
        ];
        unmarked = λ j d h g k m o. let old = answer_left v n c s j d h in elim (get_split v.marks n c.number c.op kept k m) [
          | inl l ↦ b.unmarked j d old.0 g k l o
          | inr e ↦ (let w : id ≡ id_of j d.number = ap (λ k. k.id) e.1 ∙ o in old.1 (sym (ap (λ c. c.name) w)) (sym (ap (λ c. c.number) w)))
        ];
        marked = λ j d h p g. let m = answer_left v n c s j d h in get_grows v.marks n c.number c.op kept (mark_of j d (kept_in d.stage)) (b.marked j d m.0 p g);
        low = λ j k o h. omega (arith, b.low j k o (sym (still (id_of j k)) ∙ h), answer_made v n c j);
        mark_called = λ k h. still k.id ∙ elim (get_split v.marks n c.number c.op kept k h) [
          | inl m ↦ b.mark_called k m
          | inr e ↦ subst (λ k. call_in v.history k.id ≡ Some k.op) e.1 (b.called n c i)
        ];
        mark_answered = λ k h g. elim (get_split v.marks n c.number c.op kept k h) [
          | inl m ↦ answer_kept v.history (ev ∷ []) k.id (answer_of k.op k.kept) (b.mark_answered k m g)
          | inr e ↦ subst (λ k. answer_in z.history k.id ≡ Some (answer_of k.op k.kept)) e.1 (answer_last v.history id told (open_call v n c i b))
        ];
        answered_mark = λ d a h. elim (answer_split v.history id d told a h) [
          | inl o ↦ (let r = b.answered_mark d a o in (r.0, get_grows v.marks n c.number c.op kept r.0 r.1, r.2, r.3))
          | inr e ↦ (mark, is_marked, e.0, sym e.1)
        ];
        all_called = λ j k p h. let r = b.all_called j k p (omega (arith, h, answer_made v n c j)) in (r.0, still (id_of j k) ∙ r.1);
        apart = get_apart v.marks n c.number c.op kept b.apart (λ g l m o. b.unmarked n c i (inl g) l m o);
        positive = λ j d h. b.positive j d (answer_left v n c s j d h).0;
      }
