-- Tags follow the order of answers and later calls
use Rattle.std.proofs.Common.{◌≡◌, ℕ, zero, suc, ◌+◌, ◌<◌, ◌≤◌, ◌⊎◌, true, false, List, [], ◌∷◌, ◌++◌, length, Some, None, refl, sym, ap, ◌∙◌, subst, inl, inr, ⊎_elim, arith, true≢false, append-nil}
use Rattle.std.specs.FinMap as map
use Rattle.rambo_names.specs.Quorums.{QuorumSystem, IsSound}
use Rattle.rambo_tag.specs.declared.tag.Tag.{Tag}
use Rattle.rambo_tag.specs.Tags.{tag_of}
use Rattle.rambo_tag.proofs.TagOrder.{TagLe, TagLt, TagLe-trans_lt}
use Rattle.rambo_history.specs.declared.operation.Op.{Op}
use Rattle.rambo_history.specs.declared.operation.Op.TheVariants as op
use Rattle.rambo_history.specs.declared.operation.Answer.{Answer}
use Rattle.rambo_history.specs.declared.event.CallId.{CallId}
use Rattle.rambo_history.specs.declared.event.Event.{Event}
use Rattle.rambo_history.specs.declared.event.Event.TheVariants as event
use Rattle.rambo_history.specs.Calls.{key_of, is_get}
use Rattle.rambo_history.specs.Histories.{call_in, answer_in, answered_before}
use Rattle.rambo_calls.specs.Calls.{CallState, propagates, kept_in}
use Rattle.rambo_node.specs.Nodes.{NodeState, first_node}
use Rattle.rambo_node.specs.Operations.{taken, answer_of}
use Rattle.rambo_sequence.specs.declared.mark.Mark.{Mark}
use Rattle.rambo_sequence.specs.Sequences.{call_place}
use Rattle.rambo_run.specs.Worlds.{WorldState, first_world}
use Rattle.rambo_run.proofs.Deeds.{id_of}
use Rattle.rambo_run.proofs.Lists.{none-some, Member}
use Rattle.rambo_run.proofs.Turn.{Moments, Run}
use Rattle.rambo_run.proofs.Held.{from_then}
use Rattle.rambo_run.proofs.Phases.{calls_at}
use Rattle.rambo_run.proofs.LaterPhases.{Done, done_at, reads}
use Rattle.rambo_run.proofs.Events.{none_or_some, call_kept, call_still, answer_split, answer_still, before_called, before_answered, before_answer, before_call, place_there, place_kept, place_new}
use Rattle.rambo_run.proofs.Seen.{Seen, mark_of, t_still, t_node, t_calls, t_queries, t_answers}
use Rattle.rambo_run.proofs.Sights.{Worlds, Came}
use Rattle.rambo_run.proofs.Books.{Book, apart_same, get_cases, get_new, next_new}
use Rattle.rambo_run.proofs.Booked.{book}
use Rattle.rambo_run.proofs.Tags.{node, sight, run, turns, Turning, Queried, Answers, by_query, by_answer, mark_split, mark_later, told_split, new_tag}

taken_get : {Q : Type 0} (x : NodeState Q) (o : Op) → is_get o ≡ true → (t : Tag) → TagLe t (tag_of (map.get x.registers (key_of o))) → TagLe t (tag_of (taken x o))
taken_get x (op.Get key) g t h = h
taken_get x (op.Set key v) g t h = absurd (true≢false (sym g))

module _ {Q : Type 0} (s : QuorumSystem Q) (law : IsSound s) (founders : Q) (world : ℕ → WorldState Q) (worlds : Worlds s founders world) where
  abbrev pub at : Moments Q
  at m n = node s founders world worlds m n

  abbrev pub see : ℕ → Seen Q
  see m = sight s founders world worlds m

  abbrev pub H : ℕ → List Event
  H m = (world m).history

  abbrev runs : Run s (Came s founders world worlds) founders at
  runs = run s founders world worlds

  abbrev Going : ℕ → Type 0
  Going m = Turning s founders world worlds m

  abbrev going : (m : ℕ) → Going m
  going m = turns s founders world worlds m

  abbrev pub books : (m : ℕ) → Book (see m)
  books m = book s founders world worlds m

  abbrev Done' : ℕ → Mark → Type 0
  Done' m k = Done s at m (key_of k.op) (tag_of k.kept)

  done_later : (m u : ℕ) (k : Mark) → m ≤ u → Done' m k → Done' u k
  done_later m u k h d = record {
    node = d.node;
    began = d.began;
    order = omega (arith, d.order);
    lo = d.lo;
    end = d.end;
    ordered = d.ordered;
    floor = d.floor;
    holds = d.holds;
    repliers = d.repliers;
    quorums = d.quorums;
    replies = λ j r. let q = d.replies j r in (record { moment = q.0.moment; since = q.0.since; before = omega (arith, q.0.before); told = q.0.told }, q.1);
  }

  -- the history grows at its end
  pub history_on : (m : ℕ) → Going m → (more : List Event) × (H (suc m) ≡ H m ++ more)
  history_on m (t_still e) = ([], ap (λ z. z.history) e ∙ sym (append-nil _))
  history_on m (t_node n y a b c e) = ([], ap (λ z. z.history) e ∙ sym (append-nil _))
  history_on m (t_calls n o e) = (event.Call (id_of n ((at m n).made + 1)) o ∷ [], ap (λ z. z.history) e)
  history_on m (t_queries n c a b d e) = ([], ap (λ z. z.history) e ∙ sym (append-nil _))
  history_on m (t_answers n c a b d e) = (event.Answer (id_of n c.number) (answer_of c.op (kept_in c.stage)) ∷ [], ap (λ z. z.history) e)

  call_step : (m : ℕ) (c : CallId) (o : Op) → call_in (H m) c ≡ Some o → call_in (H (suc m)) c ≡ Some o
  call_step m c o e = let r = history_on m (going m) in ap (λ h. call_in h c) r.1 ∙ call_kept (H m) r.0 c o e

  -- nothing more comes to stand before a call
  before_step : (m : ℕ) (c d : CallId) (o : Op) → Going m → call_in (H m) d ≡ Some o → answered_before (H (suc m)) c d ≡ answered_before (H m) c d
  before_step m c d o (t_still e) h = ap (λ z. answered_before z.history c d) e
  before_step m c d o (t_node n y a b k e) h = ap (λ z. answered_before z.history c d) e
  before_step m c d o (t_calls n p e) h = ap (λ z. answered_before z.history c d) e
      ∙ before_call (H m) c d (id_of n ((at m n).made + 1)) p (λ q. none-some o (sym (next_new (see m) n (books m)) ∙ ap (call_in (H m)) q ∙ h))
  before_step m c d o (t_queries n k a b f e) h = ap (λ z. answered_before z.history c d) e
  before_step m c d o (t_answers n k a b f e) h = ap (λ z. answered_before z.history c d) e ∙ before_answer (H m) c d (id_of n k.number) (answer_of k.op (kept_in k.stage))

  pub before_was : (u m : ℕ) (c d : CallId) (o : Op) → u ≤ m → call_in (H u) d ≡ Some o → (call_in (H m) d ≡ Some o) × (answered_before (H m) c d ≡ answered_before (H u) c d)
  before_was u m c d o l h = from_then (λ m. (call_in (H m) d ≡ Some o) × (answered_before (H m) c d ≡ answered_before (H u) c d)) u (h, refl)
      (λ m k r. (call_step m d o r.0, before_step m c d o (going m) r.0 ∙ r.1)) m l

  -- an answer is an old one, or is given in this step
  answer_new : (m : ℕ) (d : CallId) (a : Answer) → Going m → answer_in (H (suc m)) d ≡ Some a
      → (answer_in (H m) d ≡ Some a) ⊎ ((n : ℕ) × (c : CallState Q) × Answers s founders world worlds m n c × (id_of n c.number ≡ d))
  answer_new m d a (t_still e) h = inl (sym (ap (λ z. answer_in z.history d) e) ∙ h)
  answer_new m d a (t_node k y b c f e) h = inl (sym (ap (λ z. answer_in z.history d) e) ∙ h)
  answer_new m d a (t_calls k o e) h = inl (sym (answer_still (H m) (id_of k ((at m k).made + 1)) d o) ∙ sym (ap (λ z. answer_in z.history d) e) ∙ h)
  answer_new m d a (t_queries k c b f g e) h = inl (sym (ap (λ z. answer_in z.history d) e) ∙ h)
  answer_new m d a (t_answers k c b f g e) h = ⊎_elim inl (λ r. inr (k, c, record { member = b; told = f; met = g; after = e }, r.0))
      (answer_split (H m) (id_of k c.number) d (answer_of c.op (kept_in c.stage)) a (sym (ap (λ z. answer_in z.history d) e) ∙ h))

  -- the mark of an answered call stands in the marks of that moment
  mark_was : (u m : ℕ) (c : CallId) (a : Answer) (k : Mark) → u ≤ m → answer_in (H u) c ≡ Some a → Member k (world m).marks → k.id ≡ c → Member k (world u).marks
  mark_was u m c a k h e j o =
      let r = (books u).answered_mark c a e in
      let same : k ≡ r.0 = apart_same (world m).marks k r.0 (books m).apart j (mark_later s founders world worlds u m r.0 h r.1) (r.2 ∙ sym o) in
      subst (λ k. Member k (world u).marks) (sym same) r.1

  mark_given : (m n : ℕ) (c : CallState Q) → Answers s founders world worlds m n c → Member (mark_of n c (kept_in c.stage)) (world (suc m)).marks
  mark_given m n c q = ⊎_elim
      (λ g. subst (λ z. Member (mark_of n c (kept_in c.stage)) z.marks) (sym q.after) (get_new (world m).marks n c.number c.op (kept_in c.stage) g))
      (λ g. mark_later s founders world worlds m (suc m) (mark_of n c (kept_in c.stage)) (omega arith) ((books m).marked n c q.member q.told g)) (get_cases c.op)

  no_answer : (d : CallId) (a : Answer) → answer_in (H 0) d ≡ Some a → ⊥
  unfolding first_world
  no_answer d a h = none-some a (sym (ap (λ w. answer_in w.history d) worlds.first) ∙ h)

  -- who is answered has a propagation that was met
  answered_done : (m : ℕ) (d : CallId) (a : Answer) → answer_in (H m) d ≡ Some a → (k : Mark) → Member k (world m).marks → k.id ≡ d → Done' m k
  answered_done zero d a h k j o = absurd (no_answer d a h)
  answered_done (suc m) d a h k j o = elim (answer_new m d a (going m) h) [
    | inl e ↦ done_later m (suc m) k (omega arith) (answered_done m d a e k (mark_was m (suc m) d a k (omega arith) e j o) o)
    | inr r ↦
        (let n : ℕ = r.0 in
        let c = r.1 in
        let f = calls_at s founders at runs m n c r.2.member in
        let mark : Mark = mark_of n c (kept_in c.stage) in
        let done : Done' m mark = done_at s at f.began m n c.phase f.phase r.2.met (key_of c.op) (tag_of (kept_in c.stage)) (f.kept r.2.told) in
        subst (Done' (suc m)) (apart_same (world (suc m)).marks mark k (books (suc m)).apart (mark_given m n c r.2) j (o ∙ sym r.3)) (done_later m (suc m) mark (omega arith) done))
  ]

  -- what stands before a call that was made by u, stood there at u
  was_before : (u m : ℕ) (b : CallId) (o : Op) (k : Mark) → u ≤ m → call_in (H u) b ≡ Some o → Member k (world m).marks → answered_before (H m) k.id b ≡ true
      → Member k (world u).marks × (answered_before (H u) k.id b ≡ true) × ((a : Answer) × (answer_in (H u) k.id ≡ Some a))
  was_before u m b o k h c i l =
      let w : answered_before (H u) k.id b ≡ true = sym (before_was u m k.id b o h c).1 ∙ l in
      let a = before_answered (H u) k.id b w in
      (mark_was u m k.id a.0 k h a.1 i refl, w, a)

  -- a query that is answered reads at least the tags of what was answered before its call
  query_reads : (m n : ℕ) (c : CallState Q) → Queried s founders world worlds m n c → (k : Mark) → Member k (world m).marks → key_of k.op ≡ key_of c.op → answered_before (H m) k.id (id_of n c.number) ≡ true
      → TagLe (tag_of k.kept) (tag_of (map.get (at m n).registers (key_of c.op)))
  query_reads m n c q k i e l =
      let f = calls_at s founders at runs m n c q.member in
      let made = (books f.began).all_called n c.number ((books m).positive n c q.member) f.since in
      let w = was_before f.began m (id_of n c.number) made.0 k f.phase.before made.1 i l in
      let d = answered_done f.began k.id w.2.0 w.2.1 k w.0 refl in
      subst (λ key. TagLe (tag_of k.kept) (tag_of (map.get (at m n).registers key))) e
      (reads s law founders at runs (key_of k.op) (tag_of k.kept) f.began d f.began m n c.phase f.phase (omega arith) q.met)

  no_call : (n : ℕ) (d : CallState Q) → Member d (at 0 n).calls → ⊥
  unfolding first_node
  no_call n d i = subst (λ x. Member d x.calls) (runs.first n) i

  -- a get in propagation
  get_order : (m n : ℕ) (d : CallState Q) → Member d (at m n).calls → propagates d.stage ≡ true → is_get d.op ≡ true → (k : Mark) → Member k (world m).marks → key_of k.op ≡ key_of d.op
      → answered_before (H m) k.id (id_of n d.number) ≡ true → TagLe (tag_of k.kept) (tag_of (kept_in d.stage))
  get_order zero n d i p g k j e l = absurd (no_call n d i)
  get_order (suc m) n d i p g k j e l = elim (told_split s founders world worlds m n d (going m) i p) [
    | inl r ↦ (let c = r.0 in let t = r.2 in
        let b : answered_before (H (suc m)) k.id (id_of n c.number) ≡ true = ap (λ i. answered_before (H (suc m)) k.id (id_of n i)) (sym t.number) ∙ l in
        let w = was_before m (suc m) (id_of n c.number) c.op k (omega arith) ((books m).called n c r.1) j b in
        subst (λ z. TagLe (tag_of k.kept) (tag_of (kept_in z))) (sym t.stage) (get_order m n c r.1 (ap propagates (sym t.stage) ∙ p) (ap is_get (sym t.op) ∙ g) k w.0 (e ∙ ap key_of t.op) w.1))
    | inr r ↦ (let c = r.0 in let q = r.1 in
        let number : d.number ≡ c.number = ap (λ d. d.number) (sym r.2) in
        let o : d.op ≡ c.op = ap (λ d. d.op) (sym r.2) in
        let b : answered_before (H (suc m)) k.id (id_of n c.number) ≡ true = ap (λ i. answered_before (H (suc m)) k.id (id_of n i)) (sym number) ∙ l in
        let w = was_before m (suc m) (id_of n c.number) c.op k (omega arith) ((books m).called n c q.member) j b in
        let t = query_reads m n c q k w.0 (e ∙ ap key_of o) w.1 in
        subst (λ z. TagLe (tag_of k.kept) (tag_of (kept_in z))) (ap (λ d. d.stage) r.2) (taken_get (at m n) c.op (ap is_get (sym o) ∙ g) (tag_of k.kept) t))
  ]

  pub record Follows (k b : Mark) : Type 0 where
    pub get : is_get b.op ≡ true → TagLe (tag_of k.kept) (tag_of b.kept)
    pub set : is_get b.op ≡ false → TagLt (tag_of k.kept) (tag_of b.kept)

  no_mark : (k : Mark) → Member k (world 0).marks → ⊥
  unfolding first_world
  no_mark k i = subst (λ w. Member k w.marks) worlds.first i

  -- tags follow the order of answers and later calls
  pub mark_order : (m : ℕ) (k b : Mark) → Member k (world m).marks → Member b (world m).marks → key_of k.op ≡ key_of b.op → answered_before (H m) k.id b.id ≡ true → Follows k b
  mark_order zero k b i j e l = absurd (no_mark k i)
  mark_order (suc m) k b i j e l = elim (mark_split s founders world worlds m b (going m) j) [
    | inl o ↦ (let w = was_before m (suc m) b.id b.op k (omega arith) ((books m).mark_called b o) i l in mark_order m k b w.0 o e w.1)
    | inr n ↦ elim n [
      | by_query n c q g f ↦
          (let b' : answered_before (H (suc m)) k.id (id_of n c.number) ≡ true = ap (λ b. answered_before (H (suc m)) k.id b.id) f ∙ l in
          let w = was_before m (suc m) (id_of n c.number) c.op k (omega arith) ((books m).called n c q.member) i b' in
          let t = query_reads m n c q k w.0 (e ∙ ap (λ b. key_of b.op) (sym f)) w.1 in
          let u = new_tag (at m n) c.op g in
          subst (Follows k) f (record { get = λ h. absurd (true≢false (sym h ∙ g)); set = λ _. TagLe-trans_lt (tag_of k.kept) (tag_of (map.get (at m n).registers (key_of c.op))) (tag_of (taken (at m n) c.op)) t (inl (omega (arith, u.1))) }))
      | by_answer n c q g f ↦
          (let b' : answered_before (H (suc m)) k.id (id_of n c.number) ≡ true = ap (λ b. answered_before (H (suc m)) k.id b.id) f ∙ l in
          let w = was_before m (suc m) (id_of n c.number) c.op k (omega arith) ((books m).called n c q.member) i b' in
          subst (Follows k) f (record { get = λ _. get_order m n c q.member q.told g k w.0 (e ∙ ap (λ b. key_of b.op) (sym f)) w.1; set = λ h. absurd (true≢false (sym g ∙ h)) }))
    ]
  ]

  answered_called : (m : ℕ) (c : CallId) (a : Answer) → answer_in (H m) c ≡ Some a → (o : Op) × (call_in (H m) c ≡ Some o)
  answered_called m c a h = let r = (books m).answered_mark c a h in (r.0.op, ap (call_in (H m)) (sym r.2) ∙ (books m).mark_called r.0 r.1)

  -- a step that makes a call answers none
  answered_old : (m : ℕ) (b c : CallId) (o : Op) (a : Answer) → Going m → call_in (H m) b ≡ None → call_in (H (suc m)) b ≡ Some o → answer_in (H (suc m)) c ≡ Some a → answer_in (H m) c ≡ Some a
  answered_old m b c o a (t_still e) n h k = sym (ap (λ z. answer_in z.history c) e) ∙ k
  answered_old m b c o a (t_node i y f g p e) n h k = sym (ap (λ z. answer_in z.history c) e) ∙ k
  answered_old m b c o a (t_calls i p e) n h k = sym (answer_still (H m) (id_of i ((at m i).made + 1)) c p) ∙ sym (ap (λ z. answer_in z.history c) e) ∙ k
  answered_old m b c o a (t_queries i d f g p e) n h k = sym (ap (λ z. answer_in z.history c) e) ∙ k
  answered_old m b c o a (t_answers i d f g p e) n h k =
      absurd (none-some o (sym n ∙ sym (call_still (H m) (id_of i d.number) b (answer_of d.op (kept_in d.stage))) ∙ sym (ap (λ z. call_in z.history b) e) ∙ h))

  -- what was answered before a call was called before it
  pub called_first : (m : ℕ) (k b : CallId) → answered_before (H m) k b ≡ true → call_place k (H m) < call_place b (H m)
  called_first zero k b l = absurd (let a = before_answered (H 0) k b l in no_answer k a.0 a.1)
  called_first (suc m) k b l =
      let more = history_on m (going m) in
      let place : (c : CallId) (o : Op) → call_in (H m) c ≡ Some o → call_place c (H (suc m)) ≡ call_place c (H m) = λ c o e. ap (call_place c) more.1 ∙ place_kept (H m) more.0 c o e in
      elim (none_or_some (call_in (H m) b)) [
        | inl n ↦
            (let o = before_called (H (suc m)) k b l in
            let a = before_answered (H (suc m)) k b l in
            let c = answered_called m k a.0 (answered_old m b k o.0 a.0 (going m) n o.1 a.1) in
            let here : length (H m) ≤ call_place b (H (suc m)) = subst (λ h. length (H m) ≤ call_place b h) (sym more.1) (place_new (H m) more.0 b n) in
            omega (arith, here, place k c.0 c.1, place_there (H m) k c.0 c.1))
        | inr r ↦
            (let old : answered_before (H m) k b ≡ true = sym (before_step m k b r.0 (going m) r.1) ∙ l in
            let a = before_answered (H m) k b old in
            let c = answered_called m k a.0 a.1 in
            omega (arith, called_first m k b old, place k c.0 c.1, place b r.0 r.1))
      ]
