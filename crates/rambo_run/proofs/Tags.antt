-- One tag, one set; and where copies and answers come from
use Rattle.std.proofs.Common.{◌≡◌, ℕ, zero, suc, ◌+◌, ◌≤◌, ◌⊎◌, true, false, if◌then◌else◌, nat_eq, List, Option, Some, None, refl, sym, ap, ◌∙◌, subst, inl, inr, ⊎_elim, arith, eqb-true, eq-eqb, true≢false}
use Rattle.std.proofs.lemmas.Bool.{cond-true}
use Rattle.std.specs.Ordering.{nat_cmp}
use Rattle.std.specs.Cmp.Lexicographic.{slice_cmp}
use Rattle.std.specs.FinMap as map
use Rattle.rambo_names.specs.Quorums.{QuorumSystem}
use Rattle.rambo_tag.specs.declared.version.Version.{Version}
use Rattle.rambo_tag.specs.Tags.{tag_of, value_of}
use Rattle.rambo_tag.proofs.TagOrder.{TagLe, TagLe-trans}
use Rattle.rambo_tag.proofs.Keys.{same_key, same_key-true}
use Rattle.rambo_tag.proofs.Joins.{get-put}
use Rattle.rambo_history.specs.declared.operation.Op.{Op}
use Rattle.rambo_history.specs.declared.operation.Op.TheVariants as op
use Rattle.rambo_history.specs.Calls.{key_of, is_get}
use Rattle.rambo_phase.specs.Phases.{is_met}
use Rattle.rambo_calls.specs.Calls.{CallState, propagates, kept_in}
use Rattle.rambo_node.specs.Nodes.{NodeState, first_node}
use Rattle.rambo_node.specs.Operations.{called, taken, with_copy, query_answered, call_closed}
use Rattle.rambo_sequence.specs.declared.mark.Mark.{Mark}
use Rattle.rambo_run.specs.Worlds.{WorldState, first_world}
use Rattle.rambo_run.proofs.Lists.{pick, Member}
use Rattle.rambo_run.proofs.Turn.{Moments, Run}
use Rattle.rambo_run.proofs.Held.{up, names, from_then, up_to}
use Rattle.rambo_run.proofs.Phases.{keeps}
use Rattle.rambo_run.proofs.Seen.{Seen, seen_queried, seen_answered, mark_of, SameCall, same_refl, WorldTurn, t_still, t_node, t_calls, t_queries, t_answers}
use Rattle.rambo_run.proofs.Sights.{Worlds, Came, at, view}
use Rattle.rambo_run.proofs.Worlds.{steps, run_of}
use Rattle.rambo_run.proofs.Books.{set_grows, set_new, set_split, get_grows, get_split, moved_call, calls_split, query_split, answer_left}
use Rattle.rambo_run.proofs.Booked.{numbers}

-- a key's copy is none, or what a set made
pub data FromMark {Q : Type 0} (v : Seen Q) (key : List ℕ) (c : Option Version) : Type 0 where
  empty : c ≡ None → FromMark v key c
  marked : (k : Mark) → Member k v.marks → is_get k.op ≡ false → key_of k.op ≡ key → k.kept ≡ c → FromMark v key c

put_cases : {Q : Type 0} (x : NodeState Q) (k value key : List ℕ)
    → ((key ≡ k) × (map.get (with_copy x.registers (op.Set k value) (taken x (op.Set k value))) key ≡ taken x (op.Set k value)))
    ⊎ (map.get (with_copy x.registers (op.Set k value) (taken x (op.Set k value))) key ≡ map.get x.registers key)
put_cases x k value key = elim (pick (same_key key k) (taken x (op.Set k value)) (map.get x.registers key)) [
  | inl p ↦ inl (same_key-true key k p.0, get-put x.registers k _ key ∙ p.1)
  | inr p ↦ inr (get-put x.registers k _ key ∙ p.1)
]

new_value : {Q : Type 0} (x : NodeState Q) (o : Op) (key value : List ℕ) → o ≡ op.Set key value → value_of (taken x o) ≡ Some value
new_value x o key value e = ap (λ o. value_of (taken x o)) e

pub new_tag : {Q : Type 0} (x : NodeState Q) (o : Op) → is_get o ≡ false → ((tag_of (taken x o)).name ≡ x.name) × ((tag_of (taken x o)).sequence ≡ (tag_of (map.get x.registers (key_of o))).sequence + 1)
new_tag x (op.Get key) g = absurd (true≢false g)
new_tag x (op.Set key value) g = (refl, refl)

module _ {Q : Type 0} (s : QuorumSystem Q) (founders : Q) (world : ℕ → WorldState Q) (worlds : Worlds s founders world) where
  abbrev pub node : Moments Q
  node m n = at s founders world worlds m n

  abbrev pub sight : ℕ → Seen Q
  sight m = view s founders world worlds m

  abbrev pub run : Run s (Came s founders world worlds) founders node
  run = run_of s founders world worlds

  abbrev pub Turning : ℕ → Type 0
  Turning m = WorldTurn s (Came s founders world worlds) node m (sight m) (sight (suc m))

  abbrev pub turns : (m : ℕ) → Turning m
  turns m = steps s founders world worlds m

  -- a query of c is answered in this step
  pub record Queried (m n : ℕ) (c : CallState Q) : Type 0 where
    pub member : Member c (node m n).calls
    pub query : propagates c.stage ≡ false
    pub met : is_met s c.phase ≡ true
    pub after : sight (suc m) ≡ seen_queried (sight m) n c

  -- and so is its propagation
  pub record Answers (m n : ℕ) (c : CallState Q) : Type 0 where
    pub member : Member c (node m n).calls
    pub told : propagates c.stage ≡ true
    pub met : is_met s c.phase ≡ true
    pub after : sight (suc m) ≡ seen_answered (sight m) n c

  abbrev taken_at : ℕ → ℕ → CallState Q → Option Version
  taken_at m n c = taken (node m n) c.op

  pub data NewMark (m : ℕ) (k : Mark) : Type 0 where
    by_query : (n : ℕ) (c : CallState Q) → Queried m n c → is_get c.op ≡ false → mark_of n c (taken_at m n c) ≡ k → NewMark m k
    by_answer : (n : ℕ) (c : CallState Q) → Answers m n c → is_get c.op ≡ true → mark_of n c (kept_in c.stage) ≡ k → NewMark m k

  pub mark_split : (m : ℕ) (k : Mark) → Turning m → Member k (sight (suc m)).marks → Member k (sight m).marks ⊎ NewMark m k
  mark_split m k (t_still e) h = inl (subst (λ z. Member k z.marks) e h)
  mark_split m k (t_node n y t p g e) h = inl (subst (λ z. Member k z.marks) e h)
  mark_split m k (t_calls n o e) h = inl (subst (λ z. Member k z.marks) e h)
  mark_split m k (t_queries n c i p q e) h = ⊎_elim inl (λ r. inr (by_query n c (record { member = i; query = p; met = q; after = e }) r.0 r.1))
      (set_split (sight m).marks n c.number c.op (taken_at m n c) k (subst (λ z. Member k z.marks) e h))
  mark_split m k (t_answers n c i p q e) h = ⊎_elim inl (λ r. inr (by_answer n c (record { member = i; told = p; met = q; after = e }) r.0 r.1))
      (get_split (sight m).marks n c.number c.op (kept_in c.stage) k (subst (λ z. Member k z.marks) e h))

  mark_step : (m : ℕ) (k : Mark) → Turning m → Member k (sight m).marks → Member k (sight (suc m)).marks
  mark_step m k (t_still e) h = subst (λ z. Member k z.marks) (sym e) h
  mark_step m k (t_node n y t p g e) h = subst (λ z. Member k z.marks) (sym e) h
  mark_step m k (t_calls n o e) h = subst (λ z. Member k z.marks) (sym e) h
  mark_step m k (t_queries n c i p q e) h = subst (λ z. Member k z.marks) (sym e) (set_grows (sight m).marks n c.number c.op (taken_at m n c) k h)
  mark_step m k (t_answers n c i p q e) h = subst (λ z. Member k z.marks) (sym e) (get_grows (sight m).marks n c.number c.op (kept_in c.stage) k h)

  pub mark_later : (m u : ℕ) (k : Mark) → m ≤ u → Member k (sight m).marks → Member k (sight u).marks
  mark_later m u k h i = from_then (λ u. Member k (sight u).marks) m i (λ u l j. mark_step u k (turns u) j) u h

  same_call_at : (m j : ℕ) (d : CallState Q) → Member d (node m j).calls → (c : CallState Q) × Member c (node m j).calls × SameCall c d
  same_call_at m j d h = (d, h, same_refl d)

  -- a call in propagation is an old one, or its query is answered in this step
  pub told_split : (m j : ℕ) (d : CallState Q) → Turning m → Member d (node (suc m) j).calls → propagates d.stage ≡ true
      → ((c : CallState Q) × Member c (node m j).calls × SameCall c d) ⊎ ((c : CallState Q) × Queried m j c × (moved_call (node m j) c ≡ d))
  told_split m j d (t_still e) h p = inl (same_call_at m j d (subst (λ z. Member d (z.node j).calls) e h))
  told_split m j d (t_node n y t k g e) h p = elim (pick (nat_eq j n) y (node m j)) [
    | inl q ↦ (let r = k.kept d (subst (λ x. Member d x.calls) q.1 (subst (λ z. Member d (z.node j).calls) e h)) in inl (r.0, subst (λ j. Member r.0 (node m j).calls) (sym (eqb-true j n q.0)) r.1, r.2))
    | inr q ↦ inl (same_call_at m j d (subst (λ x. Member d x.calls) q.1 (subst (λ z. Member d (z.node j).calls) e h)))
  ]
  told_split m j d (t_calls n o e) h p = elim (calls_split (sight m) n o j d (subst (λ z. Member d (z.node j).calls) e h)) [
    | inl i ↦ inl (same_call_at m j d i)
    | inr r ↦ absurd (true≢false (sym p ∙ sym (ap (λ d. propagates d.stage) r.1)))
  ]
  told_split m j d (t_queries n c i a b e) h p = elim (query_split (sight m) n c (numbers s founders world worlds m n) j d (subst (λ z. Member d (z.node j).calls) e h)) [
    | inl o ↦ inl (same_call_at m j d o.0)
    | inr r ↦ inr (c, subst (λ j. Queried m j c) (sym r.0) (record { member = i; query = a; met = b; after = e }), subst (λ j. moved_call (node m j) c ≡ d) (sym r.0) r.1)
  ]
  told_split m j d (t_answers n c i a b e) h p = inl (same_call_at m j d (answer_left (sight m) n c (numbers s founders world worlds m n) j d (subst (λ z. Member d (z.node j).calls) e h)).0)

  from_later : (m u : ℕ) (key : List ℕ) (c : Option Version) → m ≤ u → FromMark (sight m) key c → FromMark (sight u) key c
  from_later m u key c h (empty e) = empty e
  from_later m u key c h (marked k i g l e) = marked k (mark_later m u k h i) g l e

  -- what a set makes is in its mark
  made_by : (m n : ℕ) (c : CallState Q) → Queried m n c → (k value : List ℕ) → c.op ≡ op.Set k value → FromMark (sight (suc m)) k (taken (node m n) (op.Set k value))
  made_by m n c q k value e = marked (mark_of n c (taken_at m n c))
      (subst (λ z. Member (mark_of n c (taken_at m n c)) z.marks) (sym q.after) (set_new (sight m).marks n c.number c.op (taken_at m n c) (ap is_get e)))
      (ap is_get e) (ap key_of e) (ap (taken (node m n)) e)

  new_copies : (m n : ℕ) (c : CallState Q) → Queried m n c → (o : Op) → c.op ≡ o → (key : List ℕ) → FromMark (sight m) key (map.get (node m n).registers key)
      → FromMark (sight (suc m)) key (map.get (with_copy (node m n).registers o (taken (node m n) o)) key)
  new_copies m n c q (op.Get k) e key f = from_later m (suc m) key _ (omega arith) f
  new_copies m n c q (op.Set k value) e key f = elim (put_cases (node m n) k value key) [
    | inl p ↦ subst (FromMark (sight (suc m)) key) (sym p.1) (subst (λ key. FromMark (sight (suc m)) key (taken (node m n) (op.Set k value))) (sym p.0) (made_by m n c q k value e))
    | inr p ↦ subst (FromMark (sight (suc m)) key) (sym p) (from_later m (suc m) key _ (omega arith) f)
  ]

  -- the copies of one node changed
  one_copy : (m n j : ℕ) (key : List ℕ) (y z : NodeState Q) → z ≡ (if nat_eq j n then y else node m j) → FromMark (sight m) key (map.get (node m j).registers key) → FromMark (sight (suc m)) key (map.get y.registers key)
      → FromMark (sight (suc m)) key (map.get z.registers key)
  one_copy m n j key y z e old new = elim (pick (nat_eq j n) y (node m j)) [
    | inl p ↦ subst (λ x. FromMark (sight (suc m)) key (map.get x.registers key)) (sym (e ∙ p.1)) new
    | inr p ↦ subst (λ x. FromMark (sight (suc m)) key (map.get x.registers key)) (sym (e ∙ p.1)) (from_later m (suc m) key _ (omega arith) old)
  ]

  abbrev Copied : ℕ → ℕ → ℕ → List ℕ → Type 0
  Copied m u n key = FromMark (sight m) key (map.get (node u n).registers key)

  copy_on : (m : ℕ) → ((u : ℕ) → u ≤ m → (n : ℕ) (key : List ℕ) → Copied m u n key) → Turning m → (j : ℕ) (key : List ℕ) → Copied (suc m) (suc m) j key
  unfolding called query_answered call_closed
  copy_on m f (t_still e) j key = subst (λ z. FromMark (sight (suc m)) key (map.get (z.node j).registers key)) (sym e) (from_later m (suc m) key _ (omega arith) (f m (omega arith) j key))
  copy_on m f (t_node n y t k g e) j key = one_copy m n j key y (node (suc m) j) (ap (λ z. z.node j) e) (f m (omega arith) j key) (elim (g key) [
    | inl q ↦ subst (FromMark (sight (suc m)) key) (sym q) (from_later m (suc m) key _ (omega arith) (f m (omega arith) n key))
    | inr q ↦ subst (FromMark (sight (suc m)) key) (sym q.3) (from_later m (suc m) key _ (omega arith) (f q.0 q.2 q.1 key))
  ])
  copy_on m f (t_calls n o e) j key = one_copy m n j key (called (node m n) o) (node (suc m) j) (ap (λ z. z.node j) e) (f m (omega arith) j key) (from_later m (suc m) key _ (omega arith) (f m (omega arith) n key))
  copy_on m f (t_queries n c i a b e) j key = one_copy m n j key (query_answered (node m n) c) (node (suc m) j) (ap (λ z. z.node j) e) (f m (omega arith) j key)
      (new_copies m n c (record { member = i; query = a; met = b; after = e }) c.op refl key (f m (omega arith) n key))
  copy_on m f (t_answers n c i a b e) j key = one_copy m n j key (call_closed (node m n) c) (node (suc m) j) (ap (λ z. z.node j) e) (f m (omega arith) j key) (from_later m (suc m) key _ (omega arith) (f m (omega arith) n key))

  -- each copy of each moment so far is a set's
  pub copy_to : (m u : ℕ) → u ≤ m → (n : ℕ) (key : List ℕ) → Copied m u n key
  unfolding first_node
  copy_to zero u h n key =
      let z : u ≡ 0 = omega arith in
      empty (ap (λ u. map.get (node u n).registers key) z ∙ ap (λ x. map.get x.registers key) (run.first n) ∙ map.get-empty (slice_cmp nat_cmp) key)
  copy_to (suc m) u h n key = up_to (λ u. (n : ℕ) (key : List ℕ) → Copied (suc m) u n key) m (λ u l n key. from_later m (suc m) key _ (omega arith) (copy_to m u l n key)) (copy_on m (copy_to m) (turns m)) u h n key

  -- a copy that an answered query keeps
  moved_from : (m n : ℕ) (c : CallState Q) → Queried m n c → (o : Op) → c.op ≡ o → FromMark (sight (suc m)) (key_of o) (taken (node m n) o)
  moved_from m n c q (op.Get key) e = from_later m (suc m) key _ (omega arith) (copy_to m m (omega arith) n key)
  moved_from m n c q (op.Set key v) e = made_by m n c q key v e

  kept_from : (m n : ℕ) (d : CallState Q) → Member d (node m n).calls → propagates d.stage ≡ true → FromMark (sight m) (key_of d.op) (kept_in d.stage)
  unfolding first_node
  kept_from zero n d i p = absurd (subst (λ x. Member d x.calls) (run.first n) i)
  kept_from (suc m) n d i p = elim (told_split m n d (turns m) i p) [
    | inl r ↦ subst (λ o. FromMark (sight (suc m)) (key_of o) (kept_in d.stage)) (sym r.2.op)
        (subst (λ g. FromMark (sight (suc m)) (key_of r.0.op) (kept_in g)) (sym r.2.stage) (from_later m (suc m) _ _ (omega arith) (kept_from m n r.0 r.1 (ap propagates (sym r.2.stage) ∙ p))))
    | inr r ↦ subst (λ d. FromMark (sight (suc m)) (key_of d.op) (kept_in d.stage)) r.2 (moved_from m n r.0 r.1 r.0.op refl)
  ]

  no_mark : (k : Mark) → Member k (sight 0).marks → ⊥
  unfolding first_world
  no_mark k i = subst (λ w. Member k w.marks) worlds.first i

  pub mark_from : (m : ℕ) (k : Mark) → Member k (sight m).marks → FromMark (sight m) (key_of k.op) k.kept
  mark_from zero k i = absurd (no_mark k i)
  mark_from (suc m) k i = elim (mark_split m k (turns m) i) [
    | inl o ↦ from_later m (suc m) _ _ (omega arith) (mark_from m k o)
    | inr n ↦ elim n [
      | by_query n c q g e ↦ subst (λ k. FromMark (sight (suc m)) (key_of k.op) k.kept) e (moved_from m n c q c.op refl)
      | by_answer n c q g e ↦ subst (λ k. FromMark (sight (suc m)) (key_of k.op) k.kept) e (from_later m (suc m) _ _ (omega arith) (kept_from m n c q.member q.told))
    ]
  ]

  -- the tag of a set
  pub record SetTag (m : ℕ) (k : Mark) : Type 0 where
    pub name : (tag_of k.kept).name ≡ k.id.name
    pub positive : 1 ≤ (tag_of k.kept).sequence
    pub held : TagLe (tag_of k.kept) (tag_of (map.get (node m k.id.name).registers (key_of k.op)))

  pub query_copies : (m n : ℕ) (c : CallState Q) → Queried m n c → (node (suc m) n).registers ≡ with_copy (node m n).registers c.op (taken_at m n c)
  unfolding query_answered
  query_copies m n c q = ap (λ z. (z.node n).registers) q.after ∙ ap (λ x. x.registers) (cond-true (nat_eq n n) (query_answered (node m n) c) (node m n) (eq-eqb n n refl))

  pub set_tag : (m : ℕ) (k : Mark) → Member k (sight m).marks → is_get k.op ≡ false → SetTag m k
  set_tag zero k i g = absurd (no_mark k i)
  set_tag (suc m) k i g = elim (mark_split m k (turns m) i) [
    | inl o ↦ (let f = set_tag m k o g in record { name = f.name; positive = f.positive; held = TagLe-trans (tag_of k.kept) _ _ f.held ((up s founders node run m (suc m) k.id.name (omega arith)).tags (key_of k.op)) })
    | inr n ↦ elim n [
      | by_query n c q h e ↦ subst (SetTag (suc m)) e (let t = new_tag (node m n) c.op h in record {
        name = t.0 ∙ names s founders node run m n;
        positive = omega (arith, t.1);
        held = subst (λ r. TagLe (tag_of (taken_at m n c)) (tag_of (map.get r (key_of c.op)))) (sym (query_copies m n c q)) (keeps (node m n) c.op);
      })
      | by_answer n c q h e ↦ absurd (true≢false (sym h ∙ ap (λ k. is_get k.op) e ∙ g))
    ]
  ]

  pub set_value : (m : ℕ) (k : Mark) (key v : List ℕ) → Member k (sight m).marks → k.op ≡ op.Set key v → value_of k.kept ≡ Some v
  set_value zero k key v i g = absurd (no_mark k i)
  set_value (suc m) k key v i g = elim (mark_split m k (turns m) i) [
    | inl o ↦ set_value m k key v o g
    | inr n ↦ elim n [
      | by_query n c q h e ↦ ap (λ k. value_of k.kept) (sym e) ∙ new_value (node m n) c.op key v (ap (λ k. k.op) e ∙ g)
      | by_answer n c q h e ↦ absurd (true≢false (sym h ∙ ap (λ k. is_get k.op) e ∙ ap is_get g))
    ]
  ]

  abbrev pub SameTag : Mark → Mark → Type 0
  SameTag k l = (key_of k.op ≡ key_of l.op) × (tag_of k.kept ≡ tag_of l.kept)

  -- a new set's tag is greater than each of the node's for the key
  new_old : (m n : ℕ) (c : CallState Q) → is_get c.op ≡ false → (l : Mark) → Member l (sight m).marks → is_get l.op ≡ false → SameTag (mark_of n c (taken_at m n c)) l → ⊥
  new_old m n c g l i h e =
      let t = new_tag (node m n) c.op g in
      let f = set_tag m l i h in
      let name : l.id.name ≡ n = sym f.name ∙ ap (λ t. t.name) (sym e.1) ∙ t.0 ∙ names s founders node run m n in
      let held : TagLe (tag_of l.kept) (tag_of (map.get (node m n).registers (key_of c.op))) =
      subst (λ n. TagLe (tag_of l.kept) (tag_of (map.get (node m n).registers (key_of c.op)))) name (subst (λ key. TagLe (tag_of l.kept) (tag_of (map.get (node m l.id.name).registers key))) (sym e.0) f.held) in
      let seq : (tag_of l.kept).sequence ≡ (tag_of (map.get (node m n).registers (key_of c.op))).sequence + 1 = ap (λ t. t.sequence) (sym e.1) ∙ t.1 in
      ⊎_elim (λ a. omega (arith, a, seq)) (λ a. omega (arith, a.0, seq)) held

  abbrev OneSet : ℕ → Type 0
  OneSet m = (k l : Mark) → Member k (sight m).marks → Member l (sight m).marks → is_get k.op ≡ false → is_get l.op ≡ false → SameTag k l → k.id ≡ l.id

  one_set_on : (m : ℕ) → OneSet m → Turning m → OneSet (suc m)
  one_set_on m f (t_still e) k l i j g h t = f k l (subst (λ z. Member k z.marks) e i) (subst (λ z. Member l z.marks) e j) g h t
  one_set_on m f (t_node n y a b c e) k l i j g h t = f k l (subst (λ z. Member k z.marks) e i) (subst (λ z. Member l z.marks) e j) g h t
  one_set_on m f (t_calls n o e) k l i j g h t = f k l (subst (λ z. Member k z.marks) e i) (subst (λ z. Member l z.marks) e j) g h t
  one_set_on m f (t_queries n c a b d e) k l i j g h t =
      elim (set_split (sight m).marks n c.number c.op (taken_at m n c) k (subst (λ z. Member k z.marks) e i)) [
        | inl o ↦ elim (set_split (sight m).marks n c.number c.op (taken_at m n c) l (subst (λ z. Member l z.marks) e j)) [
          | inl p ↦ f k l o p g h t
          | inr p ↦ absurd (new_old m n c p.0 k o g (subst (λ l. SameTag l k) (sym p.1) (sym t.0, sym t.1)))
        ]
        | inr o ↦ elim (set_split (sight m).marks n c.number c.op (taken_at m n c) l (subst (λ z. Member l z.marks) e j)) [
          | inl p ↦ absurd (new_old m n c o.0 l p h (subst (λ k. SameTag k l) (sym o.1) t))
          | inr p ↦ ap (λ k. k.id) (sym o.1 ∙ p.1)
        ]
      ]
  one_set_on m f (t_answers n c a b d e) k l i j g h t = elim (get_split (sight m).marks n c.number c.op (kept_in c.stage) k (subst (λ z. Member k z.marks) e i)) [
    | inl o ↦ elim (get_split (sight m).marks n c.number c.op (kept_in c.stage) l (subst (λ z. Member l z.marks) e j)) [
      | inl p ↦ f k l o p g h t
      | inr p ↦ absurd (true≢false (sym p.0 ∙ ap (λ k. is_get k.op) p.1 ∙ h))
    ]
    | inr o ↦ absurd (true≢false (sym o.0 ∙ ap (λ k. is_get k.op) o.1 ∙ g))
  ]

  -- one tag, one set
  pub one_set : (m : ℕ) → OneSet m
  one_set zero = λ k l i. absurd (no_mark k i)
  one_set (suc m) = one_set_on m (one_set m) (turns m)
