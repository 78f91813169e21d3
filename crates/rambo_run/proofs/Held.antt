-- What a node holds only grows, and what a heard number says
use Rattle.std.proofs.Common.{◌≡◌, ℕ, zero, suc, ◌-◌, ◌<◌, ◌≤◌, max, ◌⊎◌, Some, true, if◌then◌else◌, List, [], ◌∷◌, get_or, replicate, refl, sym, ap, ◌∙◌, subst, inl, inr, ⊎_elim, arith, eq-or-lt_of_le, slice_set}
use Rattle.std.proofs.lemmas.Bool.{cases_lt}
use Rattle.std.proofs.lemmas.List.{get_or-set_other}
use Rattle.std.specs.FinMap as map
use Rattle.rambo_names.specs.Quorums.{QuorumSystem}
use Rattle.rambo_tag.specs.declared.version.Version.{Version}
use Rattle.rambo_tag.specs.Tags.{tag_of, is_newer, greater}
use Rattle.rambo_tag.proofs.TagOrder.{TagLe, TagLt, TagLe-refl, TagLe-trans}
use Rattle.rambo_tag.specs.Copies.{Copies, joined}
use Rattle.rambo_tag.proofs.CopyOrder.{greater-idem, greater-comm, is_newer-from_lt}
use Rattle.rambo_tag.proofs.Joins.{same_copies, get-put, get-joined, joined-idem, joined-comm, joined-assoc, joined-again, TagLe-joined_left, TagLe-joined_right, TagLe-put}
use Rattle.rambo_tag.proofs.Keys.{same_key, same_key-true}
use Rattle.rambo_history.specs.declared.operation.Op.{Op}
use Rattle.rambo_history.specs.declared.operation.Op.TheVariants as op
use Rattle.rambo_config_map.specs.Maps.{end_of}
use Rattle.rambo_config_map.specs.Merging.{HasActive}
use Rattle.rambo_config_map.specs.MapLaws.{merged_end}
use Rattle.rambo_gossip.specs.Gossips.{GossipState}
use Rattle.rambo_node.specs.Nodes.{NodeState, first_node, heard_from, raised}
use Rattle.rambo_node.specs.Letters.{gossip_for}
use Rattle.rambo_node.specs.Hearing.{heard_gossip, number_after}
use Rattle.rambo_calls.specs.Hearing.{any_gap}
use Rattle.rambo_node.specs.Operations.{called, taken, new_copy, with_copy, query_answered, call_closed, called_again}
use Rattle.rambo_run.proofs.Lists.{pick}
use Rattle.rambo_run.proofs.Turn.{Moments, Telling, Alters, Turn, stays, knows, calls, hears, queried, answers, agains, alters, Run}
use Rattle.rambo_run.proofs.Altering.{altered_rest, map_move}
use Rattle.rambo_run.proofs.Formed.{IsFormed, map_grows, formed}

-- y holds at least what x holds
pub record HoldsAll {Q : Type 0} (x y : NodeState Q) : Type 0 where
  pub copies : joined y.registers x.registers ≡ y.registers
  pub tags : (key : List ℕ) → TagLe (tag_of (map.get x.registers key)) (tag_of (map.get y.registers key))
  pub floor : x.map.floor ≤ y.map.floor
  pub top : end_of x.map ≤ end_of y.map

copies_same : (a b : Copies) → b ≡ a → joined b a ≡ b
copies_same a b e = ap (joined b) (sym e) ∙ joined-idem b

pub holds_same : {Q : Type 0} (x y : NodeState Q) → y.registers ≡ x.registers → y.map ≡ x.map → HoldsAll x y
holds_same x y r m = record {
  copies = copies_same x.registers y.registers r;
  tags = λ key. subst (λ r. TagLe (tag_of (map.get x.registers key)) (tag_of (map.get r key))) (sym r) (TagLe-refl (tag_of (map.get x.registers key)));
  floor = subst (λ m. x.map.floor ≤ m.floor) (sym m) (omega arith);
  top = subst (λ m. end_of x.map ≤ end_of m) (sym m) (omega arith);
}

pub holds_trans : {Q : Type 0} (x y z : NodeState Q) → HoldsAll x y → HoldsAll y z → HoldsAll x z
holds_trans x y z h k = record {
  copies = ap (λ r. joined r x.registers) (sym k.copies) ∙ joined-assoc z.registers y.registers x.registers ∙ ap (joined z.registers) h.copies ∙ k.copies;
  tags = λ key. TagLe-trans (tag_of (map.get x.registers key)) (tag_of (map.get y.registers key)) (tag_of (map.get z.registers key)) (h.tags key) (k.tags key);
  floor = omega (arith, h.floor, k.floor);
  top = omega (arith, h.top, k.top);
}

pub from_then : (P : ℕ → Type 0) (m : ℕ) → P m → ((k : ℕ) → m ≤ k → P k → P (suc k)) → (k : ℕ) → m ≤ k → P k
from_then P m p st zero h = subst P (omega arith) p
from_then P m p st (suc k) h = ⊎_elim (λ e. subst P e p) (λ l. st k (omega arith) (from_then P m p st k (omega arith))) (eq-or-lt_of_le h)

-- up to a moment
pub up_to : (P : ℕ → Type 0) (m : ℕ) → ((s : ℕ) → s ≤ m → P s) → P (suc m) → (s : ℕ) → s ≤ suc m → P s
up_to P m f p s h = ⊎_elim (λ e. subst P (sym e) p) (λ l. f s (omega (arith, l))) (eq-or-lt_of_le h)

-- the parts of a turn that the laws on held copies read
pub data Growth {Q : Type 0} (T : Telling) (at : Moments Q) (m n : ℕ) (x y : NodeState Q) : Type 0 where
  by_itself : HoldsAll x y → x.number ≤ y.number → y.heard ≡ x.heard → x.made ≤ y.made → Growth T at m n x y
  by_letter : (u j : ℕ) → u ≤ m → T m n u j → HoldsAll x y → HoldsAll (at u j) y → x.number ≤ y.number
      → ((k : ℕ) → 1 ≤ k → (heard_from y.heard k ≡ heard_from x.heard k) ⊎ ((k ≡ j) × (heard_from y.heard k ≡ max (heard_from x.heard k) (at u j).number))) → x.made ≤ y.made → Growth T at m n x y

pub get_or-replicate : (k i d : ℕ) → get_or (replicate k d) i d ≡ d
get_or-replicate zero i d = refl
get_or-replicate (suc k) zero d = refl
get_or-replicate (suc k) (suc i) d = get_or-replicate k i d

put_raises : {Q : Type 0} (x : NodeState Q) (o : Op) (key : List ℕ) → TagLe (tag_of (map.get x.registers key)) (tag_of (map.get (with_copy x.registers o (taken x o)) key))
put_raises x (op.Get k) key = TagLe-refl (tag_of (map.get x.registers key))
put_raises x (op.Set k value) key =
    let held = map.get x.registers k in
    let v : Version = new_copy x k value in
    let above : TagLt (tag_of held) v.tag = inl (omega arith) in
    TagLe-put x.registers k v key (is_newer-from_lt held v above)

-- a newer copy put in a key's place
put_joins : (a : Copies) (key : List ℕ) (v : Version) → is_newer (map.get a key) v ≡ true → joined (map.insert a key v) a ≡ map.insert a key v
put_joins a key v newer = same_copies (joined (map.insert a key v) a) (map.insert a key v) (λ q. get-joined (map.insert a key v) a q ∙ elim (pick (same_key q key) (Some v) (map.get a q)) [
  | inl p ↦ (let e : map.get (map.insert a key v) q ≡ Some v = get-put a key v q ∙ p.1 in
      ap (λ c. greater c (map.get a q)) e ∙ greater-comm (Some v) (map.get a q)
      ∙ ap (λ t. if t then Some v else map.get a q) (ap (λ k. is_newer (map.get a k) v) (same_key-true q key p.0) ∙ newer) ∙ sym e)
  | inr p ↦ (let e : map.get (map.insert a key v) q ≡ map.get a q = get-put a key v q ∙ p.1 in
      ap (λ c. greater c (map.get a q)) e ∙ greater-idem (map.get a q) ∙ sym e)
])

put_keeps : {Q : Type 0} (x : NodeState Q) (o : Op) → joined (with_copy x.registers o (taken x o)) x.registers ≡ with_copy x.registers o (taken x o)
put_keeps x (op.Get k) = joined-idem x.registers
put_keeps x (op.Set k value) =
    let held = map.get x.registers k in
    let v : Version = new_copy x k value in
    let above : TagLt (tag_of held) v.tag = inl (omega arith) in
    put_joins x.registers k v (is_newer-from_lt held v above)

number_up_after : {Q : Type 0} (x : NodeState Q) (g : GossipState Q) → x.number ≤ number_after x g
number_up_after x g = elim (pick (any_gap g.heard g.map x.calls) (suc x.number) x.number) [
  | inl p ↦ subst (λ n. x.number ≤ n) (sym p.1) (omega arith)
  | inr p ↦ subst (λ n. x.number ≤ n) (sym p.1) (omega arith)
]

set_same : (xs : List ℕ) (i b : ℕ) → (get_or (slice_set xs i b) i 0 ≡ get_or xs i 0) ⊎ (get_or (slice_set xs i b) i 0 ≡ b)
set_same [] i b = inl refl
set_same (x ∷ xs) zero b = inr refl
set_same (x ∷ xs) (suc i) b = set_same xs i b

heard_cases : (heard : List ℕ) (j number k : ℕ) → 1 ≤ k → 1 ≤ j
    → (heard_from (raised heard j number) k ≡ heard_from heard k) ⊎ ((k ≡ j) × (heard_from (raised heard j number) k ≡ max (heard_from heard k) number))
heard_cases heard j number k a b = elim (cases_lt k j) [
  | inl l ↦ inl (get_or-set_other heard (j - 1) (k - 1) (max (heard_from heard j) number) 0 (λ e. omega (arith, e)))
  | inr l ↦ ⊎_elim
      (λ e. subst (λ k. (heard_from (raised heard j number) k ≡ heard_from heard k) ⊎ ((k ≡ j) × (heard_from (raised heard j number) k ≡ max (heard_from heard k) number))) e
      (⊎_elim inl (λ f. inr (refl, f)) (set_same heard (j - 1) (max (heard_from heard j) number))))
      (λ g. inl (get_or-set_other heard (j - 1) (k - 1) (max (heard_from heard j) number) 0 (λ e. omega (arith, e))))
      (eq-or-lt_of_le l)
]

joined_keeps : (a b : Copies) → joined (joined a b) a ≡ joined a b
joined_keeps a b = ap (λ r. joined r a) (joined-comm a b) ∙ joined-again b a ∙ joined-comm b a

pub hear_left : {Q : Type 0} (x : NodeState Q) (j : ℕ) (g : GossipState Q) → HasActive x.map → HasActive g.map → HoldsAll x (heard_gossip x j g)
unfolding heard_gossip
hear_left x j g a b = record { copies = joined_keeps x.registers g.copies; tags = λ key. TagLe-joined_left x.registers g.copies key; floor = omega arith; top = omega (arith, merged_end x.map g.map a b) }

pub hear_right : {Q : Type 0} (x : NodeState Q) (j n : ℕ) (y : NodeState Q) → HasActive x.map → HasActive y.map → HoldsAll y (heard_gossip x j (gossip_for y n))
unfolding heard_gossip
hear_right x j n y a b = record { copies = joined-again x.registers y.registers; tags = λ key. TagLe-joined_right x.registers y.registers key; floor = omega arith; top = omega (arith, merged_end x.map y.map a b) }

-- a node keeps its name
pub name_turn : {Q : Type 0} {T : Telling} (s : QuorumSystem Q) (at : Moments Q) (m n : ℕ) (x y : NodeState Q) → Turn s T at m n x y → y.name ≡ x.name
unfolding called query_answered call_closed called_again heard_gossip
name_turn s at m n x y (stays e) = ap (λ y. y.name) e
name_turn s at m n x y (knows st known e) = ap (λ y. y.name) e
name_turn s at m n x y (calls o e) = ap (λ y. y.name) e
name_turn s at m n x y (hears u j h b k t e) = ap (λ y. y.name) e
name_turn s at m n x y (queried c i p h e) = ap (λ y. y.name) e
name_turn s at m n x y (answers c i p h e) = ap (λ y. y.name) e
name_turn s at m n x y (agains c i e) = ap (λ y. y.name) e
name_turn s at m n x y (alters a) = (altered_rest s x y a).name

-- a node that alters its collection or attempt holds what it held
pub holds_altered : {Q : Type 0} (s : QuorumSystem Q) (x y : NodeState Q) → IsFormed x → Alters s x y → HoldsAll x y
holds_altered s x y f a =
    let m = map_grows s x y f (map_move s x y a) in
    let k = altered_rest s x y a in
    record {
      copies = copies_same x.registers y.registers k.registers;
      tags = λ key. subst (λ r. TagLe (tag_of (map.get x.registers key)) (tag_of (map.get r key))) (sym k.registers) (TagLe-refl (tag_of (map.get x.registers key)));
      floor = m.1;
      top = m.2;
    }

-- a number that j heard of n was n's at some moment, and j holds what n held then; unless it is 0, it came in the letter
-- that n told there
pub record HeardOf {Q : Type 0} (T : Telling) (at : Moments Q) (m j n number : ℕ) : Type 0 where
  pub moment : ℕ
  pub before : moment ≤ m
  pub was : number ≤ (at moment n).number
  pub holds : HoldsAll (at moment n) (at m j)
  pub letter : 1 ≤ number → (v : ℕ) × (v < m) × T v j moment n

-- the number that a phase took when it began, at moment t
pub record Fresh {Q : Type 0} (at : Moments Q) (n number t : ℕ) : Type 0 where
  pub by : (u : ℕ) → number ≤ (at u n).number → t ≤ u

-- what j told at u in reply to the phase of n that began at t, counted by moment m
pub record Reply {Q : Type 0} (at : Moments Q) (n t m j u : ℕ) : Type 0 where
  pub since : t ≤ u
  pub before : u ≤ m
  pub told : HoldsAll (at t n) (at u j)
  pub kept : HoldsAll (at u j) (at m n)

module _ {Q : Type 0} {T : Telling} (s : QuorumSystem Q) (founders : Q) (at : Moments Q) (run : Run s T founders at) where
  pub active : (m n : ℕ) → HasActive (at m n).map
  active m n = (formed s founders at run m n).active

  -- node n has the name n
  pub names : (m n : ℕ) → (at m n).name ≡ n
  unfolding first_node
  names zero n = ap (λ x. x.name) (run.first n)
  names (suc m) n = name_turn s at m n (at m n) (at (suc m) n) (run.turn m n) ∙ names m n

  growth : (m n : ℕ) → Turn s T at m n (at m n) (at (suc m) n) → Growth T at m n (at m n) (at (suc m) n)
  unfolding called query_answered call_closed called_again heard_gossip
  growth m n (stays e) = by_itself (holds_same _ _ (ap (λ y. y.registers) e) (ap (λ y. y.map) e)) (omega (arith, ap (λ y. y.number) e)) (ap (λ y. y.heard) e) (omega (arith, ap (λ y. y.made) e))
  growth m n (knows st known e) = by_itself (holds_same _ _ (ap (λ y. y.registers) e) (ap (λ y. y.map) e)) (omega (arith, ap (λ y. y.number) e)) (ap (λ y. y.heard) e) (omega (arith, ap (λ y. y.made) e))
  growth m n (calls o e) = by_itself (holds_same _ _ (ap (λ y. y.registers) e) (ap (λ y. y.map) e)) (omega (arith, ap (λ y. y.number) e)) (ap (λ y. y.heard) e) (omega (arith, ap (λ y. y.made) e))
  growth m n (hears u j h b k t e) =
      let x = at m n in
      let g = gossip_for (at u j) n in
      subst (Growth T at m n x) (sym e) (by_letter u j h t (hear_left x j g (active m n) (active u j)) (hear_right x j n (at u j) (active m n) (active u j)) (number_up_after x g)
      (λ k a. heard_cases x.heard j (at u j).number k a b) (omega arith))
  growth m n (queried c i p h e) =
      subst (Growth T at m n (at m n)) (sym e) (by_itself (record { copies = put_keeps (at m n) c.op; tags = put_raises (at m n) c.op; floor = omega arith; top = omega arith }) (omega arith) refl (omega arith))
  growth m n (answers c i p h e) = by_itself (holds_same _ _ (ap (λ y. y.registers) e) (ap (λ y. y.map) e)) (omega (arith, ap (λ y. y.number) e)) (ap (λ y. y.heard) e) (omega (arith, ap (λ y. y.made) e))
  growth m n (agains c i e) = by_itself (holds_same _ _ (ap (λ y. y.registers) e) (ap (λ y. y.map) e)) (omega (arith, ap (λ y. y.number) e)) (ap (λ y. y.heard) e) (omega (arith, ap (λ y. y.made) e))
  growth m n (alters a) =
      let k = altered_rest s (at m n) (at (suc m) n) a in
      by_itself (holds_altered s (at m n) (at (suc m) n) (formed s founders at run m n) a) k.number k.heard (omega (arith, k.made))

  abbrev grows : (m n : ℕ) → Growth T at m n (at m n) (at (suc m) n)
  grows m n = growth m n (run.turn m n)

  step_up : (m n : ℕ) → HoldsAll (at m n) (at (suc m) n) × ((at m n).number ≤ (at (suc m) n).number) × ((at m n).made ≤ (at (suc m) n).made)
  step_up m n = elim (grows m n) [ by_itself a b c d ↦ (a, b, d) | by_letter u j h t a b c d e ↦ (a, c, e) ]

  -- what was held then is held now
  pub up : (m k n : ℕ) → m ≤ k → HoldsAll (at m n) (at k n)
  up m k n h = from_then (λ k. HoldsAll (at m n) (at k n)) m (holds_same (at m n) (at m n) refl refl) (λ k h a. holds_trans (at m n) (at k n) (at (suc k) n) a (step_up k n).0) k h

  pub number_up : (m k n : ℕ) → m ≤ k → (at m n).number ≤ (at k n).number
  number_up m k n h = from_then (λ k. (at m n).number ≤ (at k n).number) m (omega arith) (λ k h a. omega (arith, (step_up k n).1)) k h

  pub made_up : (m k n : ℕ) → m ≤ k → (at m n).made ≤ (at k n).made
  made_up m k n h = from_then (λ k. (at m n).made ≤ (at k n).made) m (omega arith) (λ k h a. omega (arith, (step_up k n).2)) k h

  all_alike : (j n : ℕ) → HoldsAll (at 0 n) (at 0 j)
  unfolding first_node
  all_alike j n = holds_same (at 0 n) (at 0 j) (ap (λ x. x.registers) (run.first j) ∙ sym (ap (λ x. x.registers) (run.first n))) (ap (λ x. x.map) (run.first j) ∙ sym (ap (λ x. x.map) (run.first n)))

  none_heard : (j n : ℕ) → heard_from (at 0 j).heard n ≡ 0
  unfolding first_node
  none_heard j n = ap (λ x. heard_from x.heard n) (run.first j) ∙ get_or-replicate 64 (n - 1) 0

  heard_on : (m j n : ℕ) → 1 ≤ n → Growth T at m j (at m j) (at (suc m) j) → HeardOf T at m j n (heard_from (at m j).heard n) → HeardOf T at (suc m) j n (heard_from (at (suc m) j).heard n)
  heard_on m j n a (by_itself k b h w) o = record {
    moment = o.moment;
    before = omega (arith, o.before);
    was = subst (λ h. heard_from h n ≤ (at o.moment n).number) (sym h) o.was;
    holds = holds_trans (at o.moment n) (at m j) (at (suc m) j) o.holds k;
    letter = λ p. let v = o.letter (subst (λ h. 1 ≤ heard_from h n) h p) in (v.0, omega (arith, v.1), v.2);
  }
  heard_on m j n a (by_letter u i um t k l b h w) o =
      let old : heard_from (at (suc m) j).heard n ≤ heard_from (at m j).heard n → HeardOf T at (suc m) j n (heard_from (at (suc m) j).heard n) =
      λ e. record {
        moment = o.moment;
        before = omega (arith, o.before);
        was = omega (arith, e, o.was);
        holds = holds_trans (at o.moment n) (at m j) (at (suc m) j) o.holds k;
        letter = λ p. let v = o.letter (omega (arith, e, p)) in (v.0, omega (arith, v.1), v.2);
      } in
      elim (h n a) [
        | inl e ↦ old (omega (arith, e))
        | inr p ↦ elim (cases_lt (heard_from (at m j).heard n) (at u i).number) [
          | inl lt ↦ subst (λ i. HeardOf T at (suc m) j i (heard_from (at (suc m) j).heard n)) (sym p.0)
              (record { moment = u; before = omega arith; was = omega (arith, p.1, lt); holds = l; letter = λ _. (m, omega arith, t) })
          | inr le ↦ old (omega (arith, p.1, le))
        ]
      ]

  pub heard_of : (m j n : ℕ) → 1 ≤ n → HeardOf T at m j n (heard_from (at m j).heard n)
  heard_of zero j n a = record { moment = 0; before = omega arith; was = omega (arith, none_heard j n); holds = all_alike j n; letter = λ p. absurd (omega (arith, p, none_heard j n)) }
  heard_of (suc m) j n a = heard_on m j n a (grows m j) (heard_of m j n a)

  pub fresh : (m n number : ℕ) → (at m n).number < number → Fresh at n number (suc m)
  fresh m n number h = record { by = λ u l. elim (cases_lt m u) [ inl a ↦ a | inr b ↦ absurd (omega (arith, l, h, number_up u m n b)) ] }

  pub own_reply : (n t m : ℕ) → t ≤ m → Reply at n t m n t
  own_reply n t m h = record { since = omega arith; before = h; told = holds_same (at t n) (at t n) refl refl; kept = up t m n h }

  pub later_reply : (n t m k j u : ℕ) → m ≤ k → Reply at n t m j u → Reply at n t k j u
  later_reply n t m k j u h r = record { since = r.since; before = omega (arith, r.before); told = r.told; kept = holds_trans (at u j) (at m n) (at k n) r.kept (up m k n h) }

  -- a letter that carries a number of the phase was sent after its beginning, by one that held all of the beginning
  pub counted_reply : (n number t m j u : ℕ) → 1 ≤ n → Fresh at n number t → u ≤ m → number ≤ heard_from (at u j).heard n → HoldsAll (at u j) (at (suc m) n) → Reply at n t (suc m) j u
  counted_reply n number t m j u a f h c k =
      let o = heard_of u j n a in
      let b : t ≤ o.moment = f.by o.moment (omega (arith, c, o.was)) in
      record { since = omega (arith, b, o.before); before = omega arith; told = holds_trans (at t n) (at o.moment n) (at u j) (up t o.moment n b) o.holds; kept = k }
