-- The order of marks, and sorted lists of them
use Rattle.std.proofs.Common.{◌≡◌, ℕ, ◌<◌, ◌≤◌, ◌⊎◌, true, false, if◌then◌else◌, nat_lt, List, [], ◌∷◌, ◌++◌, None, refl, sym, ap, ◌∙◌, subst, inl, inr, ⊎_elim, arith, ltb-true, ltb-false, true≢false, bytes_eq}
use Rattle.rambo_tag.specs.declared.tag.Tag.{Tag}
use Rattle.rambo_tag.specs.Tags.{tag_lt, tag_of}
use Rattle.rambo_tag.proofs.TagOrder.{TagLe, TagLt, TagLt-from_true, TagLe-from_false, TagLe-antisymm}
use Rattle.rambo_tag.proofs.Keys.{bytes_eq-true, bytes_eq-itself}
use Rattle.rambo_history.specs.declared.event.Event.{Event}
use Rattle.rambo_history.specs.Calls.{key_of}
use Rattle.rambo_sequence.specs.declared.mark.Mark.{Mark}
use Rattle.rambo_sequence.specs.Sequences.{rank, mark_lt, with_mark, sorted_marks}
use Rattle.rambo_run.proofs.Lists.{pick, Member, member_middle, member_left}
use Rattle.rambo_run.proofs.Books.{Apart}

-- by tag, then by rank
pub MarkLt : List Event → Mark → Mark → Type 0
MarkLt h a b = TagLt (tag_of a.kept) (tag_of b.kept) ⊎ (((tag_of a.kept).sequence ≡ (tag_of b.kept).sequence) × ((tag_of a.kept).name ≡ (tag_of b.kept).name) × (rank h a < rank h b))

lex_trans : (a b c a' b' c' a'' b'' c'' : ℕ) → ((a < a') ⊎ ((a ≡ a') × (b < b'))) ⊎ ((a ≡ a') × (b ≡ b') × (c < c')) → ((a' < a'') ⊎ ((a' ≡ a'') × (b' < b''))) ⊎ ((a' ≡ a'') × (b' ≡ b'') × (c' < c''))
    → ((a < a'') ⊎ ((a ≡ a'') × (b < b''))) ⊎ ((a ≡ a'') × (b ≡ b'') × (c < c''))
lex_trans a b c a' b' c' a'' b'' c'' p q = grind arith

lex_irrefl : (a b c : ℕ) → ((a < a) ⊎ ((a ≡ a) × (b < b))) ⊎ ((a ≡ a) × (b ≡ b) × (c < c)) → ⊥
lex_irrefl a b c p = grind arith

pub lt_trans : (h : List Event) (a b c : Mark) → MarkLt h a b → MarkLt h b c → MarkLt h a c
unfolding MarkLt
lt_trans h a b c p q =
    lex_trans (tag_of a.kept).sequence (tag_of a.kept).name (rank h a) (tag_of b.kept).sequence (tag_of b.kept).name (rank h b) (tag_of c.kept).sequence (tag_of c.kept).name (rank h c) p q

pub lt_irrefl : (h : List Event) (a : Mark) → MarkLt h a a → ⊥
unfolding MarkLt
lt_irrefl h a p = lex_irrefl (tag_of a.kept).sequence (tag_of a.kept).name (rank h a) p

pub lt_same : (h : List Event) (a b : Mark) → a ≡ b → MarkLt h a b → ⊥
lt_same h a b e p = lt_irrefl h a (subst (MarkLt h a) (sym e) p)

lt-true : (h : List Event) (a b : Mark) → mark_lt h a b ≡ true → MarkLt h a b
unfolding MarkLt
lt-true h a b e = elim (pick (tag_lt (tag_of a.kept) (tag_of b.kept)) true (if tag_lt (tag_of b.kept) (tag_of a.kept) then false else nat_lt (rank h a) (rank h b))) [
  | inl p ↦ inl (TagLt-from_true (tag_of a.kept) (tag_of b.kept) p.0)
  | inr p ↦ elim (pick (tag_lt (tag_of b.kept) (tag_of a.kept)) false (nat_lt (rank h a) (rank h b))) [
    | inl q ↦ absurd (true≢false (sym e ∙ p.1 ∙ q.1))
    | inr q ↦ (let t : tag_of a.kept ≡ tag_of b.kept = TagLe-antisymm (tag_of a.kept) (tag_of b.kept) (TagLe-from_false (tag_of b.kept) (tag_of a.kept) q.0) (TagLe-from_false (tag_of a.kept) (tag_of b.kept) p.0) in
        inr (ap (λ t. t.sequence) t, ap (λ t. t.name) t, ltb-true (rank h a) (rank h b) (sym q.1 ∙ sym p.1 ∙ e)))
  ]
]

-- one mark differs from another in what the order sees
abbrev pub Differs : List Event → Mark → Mark → Type 0
Differs h a b = (tag_of a.kept ≡ tag_of b.kept) → rank h a ≡ rank h b → ⊥

-- marks that aren't in order, and differ, are so the other way round
lt-false : (h : List Event) (a b : Mark) → mark_lt h a b ≡ false → Differs h a b → MarkLt h b a
unfolding MarkLt
lt-false h a b e d = elim (pick (tag_lt (tag_of a.kept) (tag_of b.kept)) true (if tag_lt (tag_of b.kept) (tag_of a.kept) then false else nat_lt (rank h a) (rank h b))) [
  | inl p ↦ absurd (true≢false (sym p.1 ∙ e))
  | inr p ↦ elim (pick (tag_lt (tag_of b.kept) (tag_of a.kept)) false (nat_lt (rank h a) (rank h b))) [
    | inl q ↦ inl (TagLt-from_true (tag_of b.kept) (tag_of a.kept) q.0)
    | inr q ↦ (let t : tag_of a.kept ≡ tag_of b.kept = TagLe-antisymm (tag_of a.kept) (tag_of b.kept) (TagLe-from_false (tag_of b.kept) (tag_of a.kept) q.0) (TagLe-from_false (tag_of a.kept) (tag_of b.kept) p.0) in
        let l : rank h b ≤ rank h a = ltb-false (rank h a) (rank h b) (sym q.1 ∙ sym p.1 ∙ e) in
        let n : rank h a ≡ rank h b → ⊥ = d t in
        inr (ap (λ t. t.sequence) (sym t), ap (λ t. t.name) (sym t), omega (arith, l, n)))
  ]
]

abbrev pub Sorted : List Event → List Mark → Type 0
Sorted h [] = Unit {0}
Sorted h (a ∷ ms) = ((b : Mark) → Member b ms → MarkLt h a b) × Sorted h ms

with_split : (h : List Event) (m k : Mark) (ms : List Mark) → Member k (with_mark h m ms) → (m ≡ k) ⊎ Member k ms
with_split h m k [] i = elim i [ inl e ↦ inl e | inr b ↦ absurd b ]
with_split h m k (a ∷ ms) i = elim (pick (mark_lt h m a) (m ∷ a ∷ ms) (a ∷ with_mark h m ms)) [
  | inl p ↦ (let j : (m ≡ k) ⊎ Member k (a ∷ ms) = subst (Member k) p.1 i in j)
  | inr p ↦ (let j : (a ≡ k) ⊎ Member k (with_mark h m ms) = subst (Member k) p.1 i in ⊎_elim (λ e. inr (inl e)) (λ r. ⊎_elim inl (λ s. inr (inr s)) (with_split h m k ms r)) j)
]

with_new : (h : List Event) (m : Mark) (ms : List Mark) → Member m (with_mark h m ms)
with_new h m [] = inl refl
with_new h m (a ∷ ms) = elim (pick (mark_lt h m a) (m ∷ a ∷ ms) (a ∷ with_mark h m ms)) [
  | inl p ↦ subst (Member m) (sym p.1) (inl refl)
  | inr p ↦ subst (Member m) (sym p.1) (inr (with_new h m ms))
]

with_old : (h : List Event) (m k : Mark) (ms : List Mark) → Member k ms → Member k (with_mark h m ms)
with_old h m k [] i = absurd i
with_old h m k (a ∷ ms) i = elim (pick (mark_lt h m a) (m ∷ a ∷ ms) (a ∷ with_mark h m ms)) [
  | inl p ↦ subst (Member k) (sym p.1) (inr i)
  | inr p ↦ subst (Member k) (sym p.1) (⊎_elim inl (λ j. inr (with_old h m k ms j)) i)
]

with_sorted : (h : List Event) (m : Mark) (ms : List Mark) → Sorted h ms → ((b : Mark) → Member b ms → Differs h m b) → Sorted h (with_mark h m ms)
with_sorted h m [] s d = (λ b i. absurd i, tt)
with_sorted h m (a ∷ ms) s d = elim (pick (mark_lt h m a) (m ∷ a ∷ ms) (a ∷ with_mark h m ms)) [
  | inl p ↦ (let l = lt-true h m a p.0 in subst (Sorted h) (sym p.1) (λ b i. ⊎_elim (λ e. subst (MarkLt h m) e l) (λ j. lt_trans h m a b l (s.0 b j)) i, s))
  | inr p ↦ (let l = lt-false h m a p.0 (d a (inl refl)) in subst (Sorted h) (sym p.1)
      (λ b i. ⊎_elim (λ e. subst (MarkLt h a) e l) (λ j. s.0 b j) (with_split h m b ms i), with_sorted h m ms s.1 (λ b j. d b (inr j))))
]

pub sorted_split : (h : List Event) (key : List ℕ) (k : Mark) (ms : List Mark) → Member k (sorted_marks h key ms) → Member k ms × (key_of k.op ≡ key)
sorted_split h key k [] i = absurd i
sorted_split h key k (m ∷ ms) i = elim (pick (bytes_eq (key_of m.op) key) (with_mark h m (sorted_marks h key ms)) (sorted_marks h key ms)) [
  | inl p ↦ ⊎_elim (λ e. (inl e, subst (λ k. key_of k.op ≡ key) e (bytes_eq-true (key_of m.op) key p.0))) (λ j. let r = sorted_split h key k ms j in (inr r.0, r.1)) (with_split h m k (sorted_marks h key ms) (subst (Member k) p.1 i))
  | inr p ↦ (let r = sorted_split h key k ms (subst (Member k) p.1 i) in (inr r.0, r.1))
]

pub sorted_has : (h : List Event) (key : List ℕ) (k : Mark) (ms : List Mark) → Member k ms → key_of k.op ≡ key → Member k (sorted_marks h key ms)
sorted_has h key k [] i e = absurd i
sorted_has h key k (m ∷ ms) i e = elim (pick (bytes_eq (key_of m.op) key) (with_mark h m (sorted_marks h key ms)) (sorted_marks h key ms)) [
  | inl p ↦ subst (Member k) (sym p.1) (⊎_elim (λ f. subst (λ k. Member k (with_mark h m (sorted_marks h key ms))) f (with_new h m (sorted_marks h key ms))) (λ j. with_old h m k (sorted_marks h key ms) (sorted_has h key k ms j e)) i)
  | inr p ↦ subst (Member k) (sym p.1)
      (⊎_elim (λ f. absurd (true≢false (sym (ap (λ k. bytes_eq k key) (ap (λ k. key_of k.op) f ∙ e) ∙ bytes_eq-itself key) ∙ p.0))) (λ j. sorted_has h key k ms j e) i)
]

pub sorted_sorted : (h : List Event) (key : List ℕ) (ms : List Mark) → Apart ms → ((a b : Mark) → Member a ms → Member b ms → key_of a.op ≡ key → key_of b.op ≡ key → (b.id ≡ a.id → ⊥) → Differs h a b) → Sorted h (sorted_marks h key ms)
sorted_sorted h key [] a d = tt
sorted_sorted h key (m ∷ ms) a d =
    let rest = sorted_sorted h key ms a.1 (λ x y i j. d x y (inr i) (inr j)) in
    elim (pick (bytes_eq (key_of m.op) key) (with_mark h m (sorted_marks h key ms)) (sorted_marks h key ms)) [
      | inl p ↦ subst (Sorted h) (sym p.1)
          (with_sorted h m (sorted_marks h key ms) rest (λ b i. let r = sorted_split h key b ms i in d m b (inl refl) (inr r.0) (bytes_eq-true (key_of m.op) key p.0) r.1 (λ o. a.0 b r.0 o)))
      | inr p ↦ subst (Sorted h) (sym p.1) rest
    ]

-- the parts of a sorted list
pub sorted_front : (h : List Event) (front : List Mark) (x : Mark) (back : List Mark) → Sorted h (front ++ x ∷ back) → (a : Mark) → Member a front → MarkLt h a x
sorted_front h [] x back s a i = absurd i
sorted_front h (b ∷ front) x back s a i = ⊎_elim (λ e. subst (λ b. MarkLt h b x) e (s.0 x (member_middle x front back))) (λ j. sorted_front h front x back s.1 a j) i

pub sorted_back : (h : List Event) (front : List Mark) (x : Mark) (back : List Mark) → Sorted h (front ++ x ∷ back) → (a : Mark) → Member a back → MarkLt h x a
sorted_back h [] x back s a i = s.0 a i
sorted_back h (b ∷ front) x back s a i = sorted_back h front x back s.1 a i

pub sorted_left : (h : List Event) (front back : List Mark) → Sorted h (front ++ back) → Sorted h front
sorted_left h [] back s = tt
sorted_left h (b ∷ front) back s = (λ a i. s.0 a (member_left a front back i), sorted_left h front back s.1)

-- what is less than a set of this tag is not above one that has it
squeeze : (a b c a' b' c' a'' b'' c'' : ℕ) → a ≡ a'' → b ≡ b'' → c' ≡ 0 → ((a < a') ⊎ ((a ≡ a') × (b < b'))) ⊎ ((a ≡ a') × (b ≡ b') × (c < c')) → ((a' < a'') ⊎ ((a' ≡ a'') × (b' < b''))) ⊎ ((a' ≡ a'') × (b' ≡ b'') × (c' < c'')) → ⊥
squeeze a b c a' b' c' a'' b'' c'' s n z p q = grind arith

pub nothing_between : (h : List Event) (k w r : Mark) → k.kept ≡ r.kept → rank h w ≡ 0 → MarkLt h k w → MarkLt h w r → ⊥
unfolding MarkLt
nothing_between h k w r e z p q =
    squeeze (tag_of k.kept).sequence (tag_of k.kept).name (rank h k) (tag_of w.kept).sequence (tag_of w.kept).name (rank h w) (tag_of r.kept).sequence (tag_of r.kept).name (rank h r)
    (ap (λ c. (tag_of c).sequence) e) (ap (λ c. (tag_of c).name) e) z p q

after : (a b c a' b' c' : ℕ) → a ≡ a' → b ≡ b' → c ≡ 0 → ((a' < a) ⊎ ((a' ≡ a) × (b' < b))) ⊎ ((a' ≡ a) × (b' ≡ b) × (c' < c)) → ⊥
after a b c a' b' c' s n z p = grind arith

-- a set of the same tag doesn't stand above
pub set_not_above : (h : List Event) (k r : Mark) → k.kept ≡ r.kept → rank h k ≡ 0 → MarkLt h r k → ⊥
unfolding MarkLt
set_not_above h k r e z p =
    after (tag_of k.kept).sequence (tag_of k.kept).name (rank h k) (tag_of r.kept).sequence (tag_of r.kept).name (rank h r) (ap (λ c. (tag_of c).sequence) e) (ap (λ c. (tag_of c).name) e) z p

not_least : (a b c a' b' c' : ℕ) → a' ≡ 0 → 1 ≤ a → ((a < a') ⊎ ((a ≡ a') × (b < b'))) ⊎ ((a ≡ a') × (b ≡ b') × (c < c')) → ⊥
not_least a b c a' b' c' s n p = grind arith

-- nothing with a sequence number stands below what has none
pub none_below_none : (h : List Event) (w r : Mark) → r.kept ≡ None → 1 ≤ (tag_of w.kept).sequence → MarkLt h w r → ⊥
unfolding MarkLt
none_below_none h w r e l p =
    not_least (tag_of w.kept).sequence (tag_of w.kept).name (rank h w) (tag_of r.kept).sequence (tag_of r.kept).name (rank h r) (ap (λ c. (tag_of c).sequence) e) l p

pub lt_by_tag : (h : List Event) (a b : Mark) → TagLt (tag_of a.kept) (tag_of b.kept) → MarkLt h a b
unfolding MarkLt
lt_by_tag h a b t = inl t

le_cases : (t u : Tag) (a b : ℕ) → TagLe t u → a < b → TagLt t u ⊎ ((t.sequence ≡ u.sequence) × (t.name ≡ u.name) × (a < b))
le_cases t u a b h l = grind arith

pub lt_by_rank : (h : List Event) (a b : Mark) → TagLe (tag_of a.kept) (tag_of b.kept) → rank h a < rank h b → MarkLt h a b
unfolding MarkLt
lt_by_rank h a b t l = le_cases (tag_of a.kept) (tag_of b.kept) (rank h a) (rank h b) t l
