-- What was last changed before the base is held
use Rattle.std.proofs.Common.{◌≡◌, ℕ, suc, ◌<◌, ◌≤◌, true, false, nat_eq, List, [], ◌∷◌, length, Option, Some, refl, sym, ap, ◌∙◌, subst, inl, inr, arith, eqb-true, true≢false}
use Rattle.std.proofs.lemmas.Bool.{cases_lt}
use Rattle.std.specs.FinMap as map
use Rattle.rambo_names.specs.Quorums.{QuorumSystem}
use Rattle.rambo_tag.specs.declared.version.Version.{Version}
use Rattle.rambo_tag.specs.Tags.{tag_of, is_newer}
use Rattle.rambo_tag.proofs.TagOrder.{TagLe, TagLe-trans, TagLe-antisymm}
use Rattle.rambo_tag.proofs.CopyOrder.{is_below, is_below-irrefl, is_below-asymm, is_newer-is_below, TagLe-from_not_below}
use Rattle.rambo_joiner.specs.Statuses.{is_active}
use Rattle.rambo_gossip.specs.Letters.{LetterState}
use Rattle.rambo_gossip.specs.Kinds as kind
use Rattle.rambo_node.specs.Acts.{Act}
use Rattle.rambo_node.specs.Letters.{letter_for, gossip_for}
use Rattle.rambo_node.specs.Nodes.{NodeState, heard_from}
use Rattle.rambo_node.specs.Steps.{Step}
use Rattle.rambo_run.specs.Worlds.{node_at}
use Rattle.rambo_run.specs.Journals.{journal}
use Rattle.rambo_run.proofs.Lists.{Member, pick}
use Rattle.rambo_run.proofs.Held.{heard_of, fresh, up}
use Rattle.rambo_run.proofs.Seen.{named_some}
use Rattle.rambo_run.proofs.Moments.{moment, worlds, last_moment}
use Rattle.rambo_run.proofs.NodeLists.{node_stays}
use Rattle.rambo_run.proofs.CollectionClaims.{then, runs, is_then}
use Rattle.rambo_run.proofs.TagClaims.{one_copy}
use Rattle.rambo_deltas.specs.Bases.{brought_by, base_in, OldCopiesAreHeld}
use Rattle.rambo_node.specs.FullNodes.{heard_in}
use Rattle.rambo_node.specs.Acts as act
use Rattle.rambo_deltas.proofs.Delivered.{delivered}

-- some change brought the base
base_some : {Q : Type 0} (j : ℕ) (cs : List (Act Q)) (a : ℕ) → a < base_in j cs → (c : Act Q) × Member c cs × (a < brought_by j c)
base_some j [] a h = absurd (omega arith)
base_some j (c ∷ cs) a h = elim (cases_lt a (brought_by j c)) [
  | inl lt ↦ (c, inl refl, lt)
  | inr le ↦ (let r = base_some j cs a (omega arith) in (r.0, inr r.1, r.2))
]

-- it was a letter of j
letter_of : {Q : Type 0} (j : ℕ) (c : Act Q) (a : ℕ) → a < brought_by j c → (l : LetterState Q) × (c ≡ act.Hear l) × (l.sender ≡ j) × (a < heard_in l.kind)
letter_of j (act.Hear l) a h = elim (pick (nat_eq l.sender j) (heard_in l.kind) 0) [
  | inl p ↦ (l, refl, eqb-true l.sender j p.0, omega (arith, h, p.1))
  | inr p ↦ absurd (omega (arith, h, p.1))
]
letter_of j _ a h = absurd (omega arith)

-- what a letter carries, its sender had heard
carried : {Q : Type 0} (x : NodeState Q) (n a : ℕ) → a < heard_in (letter_for x n).kind → a < heard_from x.heard n
carried x n a h = elim (pick (is_active x.status) (kind.Gossip (gossip_for x n)) kind.Join) [
  | inl p ↦ subst (λ k. a < heard_in k) p.1 h
  | inr p ↦ absurd (let z : a < 0 = subst (λ k. a < heard_in k) p.1 h in omega (arith, z))
]

-- a copy of a tag that is no greater, and is the same where the tags are, isn't newer
not_newer : (v : Version) (c : Option Version) → TagLe v.tag (tag_of c) → (v.tag ≡ tag_of c → Some v ≡ c) → is_newer c v ≡ false
not_newer v c le same = elim (pick (is_newer c v) c c) [
  | inl p ↦ (
      let below : is_below c (Some v) ≡ true = sym (is_newer-is_below c v) ∙ p.0 in
      let one : Some v ≡ c = same (TagLe-antisymm v.tag (tag_of c) le (TagLe-from_not_below (Some v) c (is_below-asymm c (Some v) below))) in
      absurd (true≢false (sym below ∙ ap (λ c. is_below c (Some v)) (sym one) ∙ is_below-irrefl (Some v)))
      )
  | inr p ↦ p.0
]

module _ {Q : Type 0} (s : QuorumSystem Q) (founders : Q) (steps : List (Step Q)) where
  abbrev node : ℕ → ℕ → NodeState Q
  node m n = then s founders steps m n

  -- what j told at moment u when it had heard a number that n took after moment m
  tag_held : (m u n j : ℕ) (key : List ℕ) (v : Version) → 1 ≤ n → u ≤ length steps → (node m n).number < heard_from (node u j).heard n
      → ((i : ℕ) → m < i → i ≤ length steps → map.get (node i n).registers key ≡ Some v) → TagLe v.tag (tag_of (map.get (node (length steps) j).registers key))
  tag_held m u n j key v named before low since =
      let o = heard_of s founders (then s founders steps) (runs s founders steps) u j n named in
      let f = fresh s founders (then s founders steps) (runs s founders steps) m n (heard_from (node u j).heard n) low in
      let late : suc m ≤ o.moment = f.by o.moment o.was in
      let here = since o.moment (omega (arith, late)) (omega (arith, o.before, before)) in
      let told : TagLe v.tag (tag_of (map.get (node u j).registers key)) = subst (λ c. TagLe (tag_of c) (tag_of (map.get (node u j).registers key))) here (o.holds.tags key) in
      let kept = (up s founders (then s founders steps) (runs s founders steps) u (length steps) j before).tags key in
      TagLe-trans v.tag (tag_of (map.get (node u j).registers key)) (tag_of (map.get (node (length steps) j).registers key)) told kept

  -- a copy of n whose tag j's is no less than is held by j
  held : (M n j : ℕ) (key : List ℕ) (v : Version) → map.get (node M n).registers key ≡ Some v → TagLe v.tag (tag_of (map.get (node M j).registers key)) → is_newer (map.get (node M j).registers key) v ≡ false
  held M n j key v e le =
      not_newer v (map.get (node M j).registers key) le
      (λ t. sym e ∙ one_copy s founders (moment s founders steps) (worlds s founders steps) M M M n j key (omega arith) (omega arith) (ap tag_of e ∙ t))

  -- a letter of j brought n more than its number at moment m
  told_more : (n j m : ℕ) → (node m n).number < base_in j (journal s founders n steps) → (u : ℕ) × (u < length steps) × ((node m n).number < heard_from (node u j).heard n)
  told_more n j m low =
      let b = base_some j (journal s founders n steps) (node m n).number low in
      let l = letter_of j b.0 (node m n).number b.2 in
      let d = delivered s founders steps n l.0 (subst (λ (c : Act Q). Member c (journal s founders n steps)) l.1 b.1) in
      let heard : (node m n).number < heard_from (node d.moment l.0.sender).heard n =
      carried (node d.moment l.0.sender) n (node m n).number (subst (λ (l : LetterState Q). (node m n).number < heard_in l.kind) (sym d.content) l.3) in
      (d.moment, d.before, subst (λ j. (node m n).number < heard_from (node d.moment j).heard n) l.2 heard)

pub old_copies_are_held : {Q : Type 0} (s : QuorumSystem Q) → OldCopiesAreHeld s
old_copies_are_held {Q} s founders steps n j y key v m x e last low =
    let node : ℕ → ℕ → NodeState Q = then s founders steps in
    let M : ℕ = length steps in
    let is_x : x ≡ node m n = is_then s founders steps m n x last.before in
    let is_y : y ≡ node M j = is_then s founders steps M j y (ap (λ w. node_at w j) (last_moment s founders steps) ∙ e) in
    let t = told_more s founders steps n j m (subst (λ (x : NodeState Q). x.number < base_in j (journal s founders n steps)) is_x low) in
    let since : (i : ℕ) → m < i → i ≤ M → map.get (node i n).registers key ≡ Some v =
    λ i a c. last.since i (node i n) a c (node_stays s founders (moment s founders steps) (worlds s founders steps) m i n x last.before) in
    let named = named_some (moment s founders steps m) n x last.before in
    let le = tag_held s founders steps m t.0 n j key v named (omega (arith, t.1)) t.2 since in
    subst (λ (y : NodeState Q). is_newer (map.get y.registers key) v ≡ false) (sym is_y) (held s founders steps M n j key v (since M last.within (omega arith)) le)
