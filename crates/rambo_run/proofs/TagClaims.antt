-- One tag of a key has one copy, and tags follow the order of answers and later calls
use Rattle.std.proofs.Common.{◌≡◌, ℕ, ◌≤◌, true, false, List, Option, None, length, sym, ap, ◌∙◌, subst, inl, inr, arith}
use Rattle.std.proofs.lemmas.Bool.{cases_lt}
use Rattle.std.specs.FinMap as map
use Rattle.rambo_names.specs.Quorums.{QuorumSystem, IsSound}
use Rattle.rambo_tag.specs.declared.tag.Tag.{Tag}
use Rattle.rambo_tag.specs.declared.version.Version.{Version}
use Rattle.rambo_tag.specs.Tags.{tag_lt, tag_of}
use Rattle.rambo_tag.proofs.TagOrder.{TagLe, TagLt, tag_lt-true, tag_lt-false}
use Rattle.rambo_history.specs.Calls.{is_get}
use Rattle.rambo_history.specs.Histories.{answered_before}
use Rattle.rambo_sequence.specs.declared.mark.Mark.{Mark}
use Rattle.rambo_run.specs.Worlds.{WorldState}
use Rattle.rambo_run.specs.Claims.{OneTagOneCopy, TagsFollowAnswers}
use Rattle.rambo_run.proofs.Lists.{Member, member_stands}
use Rattle.rambo_run.proofs.Books.{apart_same, get_cases}
use Rattle.rambo_run.proofs.Booked.{book}
use Rattle.rambo_run.proofs.Sights.{Worlds}
use Rattle.rambo_run.proofs.Tags.{FromMark, empty, marked, node, sight, copy_to, set_tag, one_set}
use Rattle.rambo_run.proofs.Before.{Follows, mark_order}
use Rattle.rambo_run.proofs.Moments.{moment, worlds, last_moment}
use Rattle.rambo_run.proofs.NodeLists.{node_is}

module _ {Q : Type 0} (s : QuorumSystem Q) (founders : Q) (world : ℕ → WorldState Q) (all : Worlds s founders world) where
  -- a set's tag isn't that of none
  set_not_none : (m : ℕ) (key : List ℕ) (k : Mark) → Member k (sight s founders world all m).marks → is_get k.op ≡ false → tag_of None ≡ tag_of k.kept → ⊥
  set_not_none m key k i g e = let f = set_tag s founders world all m k i g in omega (arith, f.positive, ap (λ t. t.sequence) e)

  same_mark : (m : ℕ) (key : List ℕ) (c d : Option Version) → FromMark (sight s founders world all m) key c → FromMark (sight s founders world all m) key d → tag_of c ≡ tag_of d → c ≡ d
  same_mark m key c d (empty e) (empty f) t = e ∙ sym f
  same_mark m key c d (empty e) (marked l j h q f) t = absurd (set_not_none m key l j h (ap tag_of (sym e) ∙ t ∙ ap tag_of (sym f)))
  same_mark m key c d (marked k i g p e) (empty f) t = absurd (set_not_none m key k i g (ap tag_of (sym f) ∙ sym t ∙ ap tag_of (sym e)))
  same_mark m key c d (marked k i g p e) (marked l j h q f) t =
      let id : k.id ≡ l.id = one_set s founders world all m k l i j g h (p ∙ sym q, ap tag_of e ∙ t ∙ ap tag_of (sym f)) in
      sym e ∙ ap (λ k. k.kept) (apart_same (sight s founders world all m).marks k l (book s founders world all m).apart i j (sym id)) ∙ f

  -- at two moments, of which the later one is m
  pub one_copy : (m u v n k : ℕ) (key : List ℕ) → u ≤ m → v ≤ m → tag_of (map.get (node s founders world all u n).registers key) ≡ tag_of (map.get (node s founders world all v k).registers key)
      → map.get (node s founders world all u n).registers key ≡ map.get (node s founders world all v k).registers key
  one_copy m u v n k key a b t = same_mark m key _ _ (copy_to s founders world all m u a n key) (copy_to s founders world all m v b k key) t

-- what two nodes hold of a key under one tag is the same
pub one_tag_one_copy : {Q : Type 0} (s : QuorumSystem Q) → OneTagOneCopy s
one_tag_one_copy s founders ss m n u k x y ex ey key t =
    let world = moment s founders ss in
    let all = worlds s founders ss in
    let a = ap (λ x. map.get x.registers key) (node_is s founders world all m n x ex) in
    let b = ap (λ x. map.get x.registers key) (node_is s founders world all u k y ey) in
    let same = ap tag_of (sym a) ∙ t ∙ ap tag_of b in
    a ∙ elim (cases_lt m u) [
      | inl l ↦ one_copy s founders world all u m u n k key (omega (arith, l)) (omega arith) same
      | inr l ↦ one_copy s founders world all m m u n k key (omega arith) l same
    ] ∙ sym b

weaker : (t u : Tag) → TagLt t u → TagLe t u
weaker t u h = grind arith

not_above : {Q : Type 0} (s : QuorumSystem Q) (law : IsSound s) (founders : Q) (world : ℕ → WorldState Q) (all : Worlds s founders world) (a b : Mark) → Follows s law founders world all a b → (tag_lt (tag_of b.kept) (tag_of a.kept) ≡ false) × (is_get b.op ≡ false → tag_lt (tag_of a.kept) (tag_of b.kept) ≡ true)
not_above s law founders world all a b f = (
  elim (get_cases b.op) [
    | inl g ↦ tag_lt-false (tag_of b.kept) (tag_of a.kept) (f.get g)
    | inr g ↦ tag_lt-false (tag_of b.kept) (tag_of a.kept) (weaker (tag_of a.kept) (tag_of b.kept) (f.set g))
  ],
  λ g. tag_lt-true (tag_of a.kept) (tag_of b.kept) (f.set g),
)

pub tags_follow_answers : {Q : Type 0} (s : QuorumSystem Q) → IsSound s → TagsFollowAnswers s
tags_follow_answers s law founders ss a b i j key l =
    let last = last_moment s founders ss in
    not_above s law founders (moment s founders ss) (worlds s founders ss) a b (mark_order s law founders (moment s founders ss) (worlds s founders ss) (length ss) a b
    (subst (λ w. Member a w.marks) (sym last) (member_stands a _ i)) (subst (λ w. Member b w.marks) (sym last) (member_stands b _ j)) key (ap (λ w. answered_before w.history a.id b.id) last ∙ l))
