-- A phase that is met reads what a phase wrote that was met before it began
use Rattle.std.proofs.Common.{◌≡◌, ℕ, zero, suc, ◌+◌, ◌-◌, ◌<◌, ◌≤◌, ◌⊎◌, Bool, true, false, ◌&&◌, List, [], ◌∷◌, Some, slice_get, refl, sym, subst, inl, inr, arith, true≢false}
use Rattle.std.proofs.lemmas.Bool.{cases_lt}
use Rattle.std.specs.List.{list_all}
use Rattle.std.specs.FinSet as set
use Rattle.std.specs.FinMap as map
use Rattle.rambo_names.specs.Names.{NameSet}
use Rattle.rambo_names.specs.Quorums.{QuorumSystem, IsSound}
use Rattle.rambo_tag.specs.declared.tag.Tag.{Tag}
use Rattle.rambo_tag.specs.Tags.{tag_of}
use Rattle.rambo_tag.proofs.TagOrder.{TagLe, TagLe-trans}
use Rattle.rambo_config_map.specs.Maps.{end_of}
use Rattle.rambo_phase.specs.Phases.{PhaseState, above, is_met}
use Rattle.rambo_run.proofs.Lists.{some_inj, none-some}
use Rattle.rambo_run.proofs.Turn.{Moments, Telling, Run}
use Rattle.rambo_run.proofs.Held.{HoldsAll, from_then, up}
use Rattle.rambo_run.proofs.Places.{HeldAt}
use Rattle.rambo_run.proofs.Phases.{CountedReply, PhaseAt}
use Rattle.rambo_run.proofs.Collections.{Collected, removed}
use Rattle.rambo_run.proofs.Agreement.{agreement}

-- j told at some moment from t to e, at which it held all that n held at t
pub record Told {Q : Type 0} (at : Moments Q) (n t e j : ℕ) : Type 0 where
  pub moment : ℕ
  pub since : t ≤ moment
  pub before : moment ≤ e
  pub told : HoldsAll (at t n) (at moment j)

-- these names are a quorum of a configuration that was held at this place
pub record QuorumAt {Q : Type 0} (s : QuorumSystem Q) (at : Moments Q) (p : ℕ) (who : NameSet) : Type 0 where
  pub config : Q
  pub held : HeldAt at p config
  pub quorum : s.is_quorum config who ≡ true

-- a propagation of this tag, over the places from lo to below end, that was met by moment e
pub record Done {Q : Type 0} (s : QuorumSystem Q) (at : Moments Q) (e : ℕ) (key : List ℕ) (tag : Tag) : Type 0 where
  pub node : ℕ
  pub began : ℕ
  pub order : began ≤ e
  pub lo : ℕ
  pub end : ℕ
  pub ordered : lo < end
  pub floor : (at began node).map.floor ≡ lo
  pub holds : TagLe tag (tag_of (map.get (at began node).registers key))
  pub repliers : NameSet
  pub quorums : (p : ℕ) → lo ≤ p → p < end → QuorumAt s at p repliers
  pub replies : (j : ℕ) → set.contains repliers j ≡ true → (r : Told at node began e j) × (end_of (at r.moment j).map ≤ end)

-- each collection of place k had the tag when it turned to its second quorum
abbrev pub Carries : {Q : Type 0} → Telling → QuorumSystem Q → Moments Q → List ℕ → Tag → ℕ → Type 0
Carries T s at key tag k = (e : ℕ) (g : Collected T s at k e) → TagLe tag (tag_of (map.get (at g.turned g.node).registers key))

and_both : (a b : Bool) → (a && b) ≡ true → (a ≡ true) × (b ≡ true)
and_both true b e = (refl, e)
and_both false b e = absurd (true≢false (sym e))

all_get : {A : Type 0} (f : A → Bool) (xs : List A) (i : ℕ) (a : A) → list_all f xs ≡ true → slice_get xs i ≡ Some a → f a ≡ true
all_get f [] i a h e = absurd (none-some a e)
all_get f (x ∷ xs) zero a h e = subst (λ a. f a ≡ true) (some_inj x a e) (and_both (f x) (list_all f xs) h).0
all_get f (x ∷ xs) (suc i) a h e = all_get f xs i a (and_both (f x) (list_all f xs) h).1 e

-- the repliers of a phase that is met are a quorum at each of its places
pub met_quorums : {Q : Type 0} {T : Telling} (s : QuorumSystem Q) (at : Moments Q) (t m n : ℕ) (p : PhaseState Q) → PhaseAt T at t m n p → is_met s p ≡ true
    → (place : ℕ) → p.lo ≤ place → place < above p → QuorumAt s at place p.repliers
met_quorums s at t m n p f met place l h =
    let c = f.held place l h in
    record { config = c.config; held = c.held; quorum = all_get (λ q. s.is_quorum q p.repliers) p.configs (place - p.lo) c.config met c.is }

-- a phase that is met at moment m, and began with the tag
abbrev pub done_at : {Q : Type 0} {T : Telling} (s : QuorumSystem Q) (at : Moments Q) (t m n : ℕ) (p : PhaseState Q) → PhaseAt T at t m n p → is_met s p ≡ true → (key : List ℕ) (tag : Tag)
    → TagLe tag (tag_of (map.get (at t n).registers key)) → Done s at m key tag
done_at s at t m n p f met key tag h = record {
  node = n;
  began = t;
  order = f.before;
  lo = p.lo;
  end = above p;
  ordered = f.ordered;
  floor = f.lo;
  holds = h;
  repliers = p.repliers;
  quorums = met_quorums s at t m n p f met;
  replies = λ j w. let q = f.replies j w in (record { moment = q.0.moment; since = q.0.reply.since; before = q.0.reply.before; told = q.0.reply.told }, q.1);
}

module _ {Q : Type 0} {T : Telling} (s : QuorumSystem Q) (law : IsSound s) (founders : Q) (at : Moments Q) (run : Run s T founders at) (key : List ℕ) (tag : Tag) where
  -- node n has at least the tag at moment m
  abbrev Has : ℕ → ℕ → Type 0
  Has m n = TagLe tag (tag_of (map.get (at m n).registers key))

  along : (m n u j : ℕ) → Has m n → HoldsAll (at m n) (at u j) → Has u j
  along m n u j h a = TagLe-trans tag (tag_of (map.get (at m n).registers key)) (tag_of (map.get (at u j).registers key)) h (a.tags key)

  later : (m u n : ℕ) → m ≤ u → Has m n → Has u n
  later m u n l h = along m n u n h (up s founders at run m u n l)

  -- two quorums at one place share a name
  shared : (p : ℕ) (a b : NameSet) → QuorumAt s at p a → QuorumAt s at p b → (j : ℕ) × (set.contains a j ≡ true) × (set.contains b j ≡ true)
  shared p a b f g =
      let same : f.config ≡ g.config = agreement s law founders at run p f.config g.config f.held g.held in
      let r = law.share f.config a b f.quorum (subst (λ c. s.is_quorum c b ≡ true) (sym same) g.quorum) in
      (r.0, r.2, r.3)

  first_at : (k e : ℕ) (g : Collected T s at k e) → QuorumAt s at k g.first.asked.repliers
  first_at k e g =
      let q = g.first.quorum.met in
      subst (λ p. QuorumAt s at p g.first.asked.repliers) g.first.place (record { config = q.config; held = record { moment = g.turned; node = g.node; active = q.active }; quorum = q.quorum })

  second_at : (k e : ℕ) (g : Collected T s at k e) → QuorumAt s at (k + 1) g.asked.repliers
  second_at k e g =
      let q = g.quorum.met in
      subst (λ p. QuorumAt s at (p + 1) g.asked.repliers) g.place (record { config = q.config; held = record { moment = g.ended; node = g.node; active = q.active }; quorum = q.quorum })

  -- a second quorum has the tag, if the node had it when it turned to that quorum
  second_has : (k e : ℕ) (g : Collected T s at k e) (j : ℕ) (r : CountedReply T at g.node (suc g.turned) g.ended j g.asked.number) → Has g.turned g.node → Has r.moment j
  second_has k e g j r h = along (suc g.turned) g.node r.moment j (later g.turned (suc g.turned) g.node (omega arith) h) r.reply.told

  -- the chain of collections goes on by one place
  next_carries : (k : ℕ) → Carries T s at key tag k → Carries T s at key tag (k + 1)
  next_carries k c e g =
      let before : Collected T s at k g.opened = (removed s founders at run g.opened g.node k (omega (arith, g.first.floor))).0 in
      let both = shared (k + 1) before.asked.repliers g.first.asked.repliers (second_at k g.opened before) (first_at (k + 1) e g) in
      let j : ℕ = both.0 in
      let told = before.replies j both.1 in
      let reply = g.first.replies j both.2 in
      let at_told : Has told.moment j = second_has k g.opened before j told (c g.opened before) in
      let at_reply : Has reply.moment j = later told.moment reply.moment j (omega (arith, told.reply.before, before.before, reply.reply.since)) at_told in
      along reply.moment j g.turned g.node at_reply reply.reply.kept

  carries_on : (q k : ℕ) → q ≤ k → Carries T s at key tag q → Carries T s at key tag k
  carries_on q k h c = from_then (λ k. Carries T s at key tag k) q c (λ k h c. let same : k + 1 ≡ suc k = omega arith in subst (Carries T s at key tag) same (next_carries k c)) k h

  -- it begins at the last place of a propagation that was met
  first_carries : (e k : ℕ) (d : Done s at e key tag) → d.end ≡ k + 1 → Carries T s at key tag k
  first_carries e k d z f g =
      let both = shared k d.repliers g.first.asked.repliers (d.quorums k (omega (arith, z, d.ordered)) (omega (arith, z))) (first_at k f g) in
      let j : ℕ = both.0 in
      let told = d.replies j both.1 in
      let reply = g.first.replies j both.2 in
      elim (cases_lt told.0.moment reply.moment) [
        | inl lt ↦ along reply.moment j g.turned g.node (later told.0.moment reply.moment j (omega (arith, lt)) (along d.began d.node told.0.moment j d.holds told.0.told)) reply.reply.kept
        | inr le ↦ absurd (omega (arith, (up s founders at run reply.moment told.0.moment j le).top, reply.reply.told.top, g.first.next, told.1, z))
      ]

  -- from here on: a propagation that was met at e, and a later phase of n that was met, which began at u, as it is at m.
  -- They have a place in common
  meets : (e : ℕ) (d : Done s at e key tag) (u m n : ℕ) (p : PhaseState Q) → PhaseAt T at u m n p → e ≤ u → is_met s p ≡ true
      → (place : ℕ) → d.lo ≤ place → place < d.end → p.lo ≤ place → place < above p → Has m n
  meets e d u m n p f h met place a b a' b' =
      let both = shared place d.repliers p.repliers (d.quorums place a b) (met_quorums s at u m n p f met place a' b') in
      let j : ℕ = both.0 in
      let told = d.replies j both.1 in
      let r = f.replies j both.2 in
      along r.0.moment j m n (later told.0.moment r.0.moment j (omega (arith, told.0.before, r.0.reply.since, h)) (along d.began d.node told.0.moment j d.holds told.0.told)) r.0.reply.kept

  -- the later one lies above: collections carried the tag
  lies_above : (e : ℕ) (d : Done s at e key tag) (u m n : ℕ) (p : PhaseState Q) → PhaseAt T at u m n p → e ≤ u → is_met s p ≡ true → d.end ≤ p.lo → Has m n
  lies_above e d u m n p f h met l =
      let k : ℕ = p.lo - 1 in
      let lo : p.lo ≡ k + 1 = omega (arith, l, d.ordered) in
      let g : Collected T s at k u = (removed s founders at run u n k (omega (arith, f.lo, lo))).0 in
      let c : Has g.turned g.node = carries_on (d.end - 1) k (omega (arith, l, d.ordered)) (first_carries e (d.end - 1) d (omega (arith, d.ordered))) u g in
      let mine : QuorumAt s at (k + 1) p.repliers = subst (λ q. QuorumAt s at q p.repliers) lo (met_quorums s at u m n p f met p.lo (omega arith) f.ordered) in
      let both = shared (k + 1) g.asked.repliers p.repliers (second_at k u g) mine in
      let j : ℕ = both.0 in
      let told = g.replies j both.1 in
      let r = f.replies j both.2 in
      along r.0.moment j m n (later told.moment r.0.moment j (omega (arith, told.reply.before, g.before, r.0.reply.since)) (second_has k u g j told c)) r.0.reply.kept

  -- it can't lie below: a first quorum told of the place above its last one
  lies_below : (e : ℕ) (d : Done s at e key tag) (u m n : ℕ) (p : PhaseState Q) → PhaseAt T at u m n p → e ≤ u → is_met s p ≡ true → above p ≤ d.lo → ⊥
  lies_below e d u m n p f h met l =
      let k : ℕ = above p - 1 in
      let top : above p ≡ k + 1 = omega (arith, f.ordered) in
      let g : Collected T s at k d.began = (removed s founders at run d.began d.node k (omega (arith, d.floor, l, top))).0 in
      let both = shared k g.first.asked.repliers p.repliers (first_at k d.began g) (met_quorums s at u m n p f met k (omega (arith, top, f.ordered)) (omega (arith, top))) in
      let j : ℕ = both.0 in
      let told = g.first.replies j both.1 in
      let r = f.replies j both.2 in
      let later : told.moment ≤ r.0.moment = omega (arith, told.reply.before, g.later, g.before, d.order, h, r.0.reply.since) in
      omega (arith, (up s founders at run told.moment r.0.moment j later).top, told.reply.told.top, g.first.next, r.1, top)

  -- a later phase that is met reads at least the tag
  pub reads : (e : ℕ) → Done s at e key tag → (u m n : ℕ) (p : PhaseState Q) → PhaseAt T at u m n p → e ≤ u → is_met s p ≡ true → TagLe tag (tag_of (map.get (at m n).registers key))
  reads e d u m n p f h met = elim (cases_lt p.lo d.end) [
    | inr l ↦ lies_above e d u m n p f h met l
    | inl a ↦ elim (cases_lt d.lo (above p)) [
      | inr l ↦ absurd (lies_below e d u m n p f h met l)
      | inl b ↦ elim (cases_lt d.lo p.lo) [
        | inl c ↦ meets e d u m n p f h met p.lo (omega (arith, c)) a (omega arith) f.ordered
        | inr c ↦ meets e d u m n p f h met d.lo (omega arith) d.ordered c b
      ]
    ]
  ]

  -- it has a place in common with the propagation, or lies above it
  pub meets_or_above : (e : ℕ) (d : Done s at e key tag) (u m n : ℕ) (p : PhaseState Q) → PhaseAt T at u m n p → e ≤ u → is_met s p ≡ true
      → ((place : ℕ) × (d.lo ≤ place) × (place < d.end) × (p.lo ≤ place) × (place < above p)) ⊎ (d.end ≤ p.lo)
  meets_or_above e d u m n p f h met = elim (cases_lt p.lo d.end) [
    | inr l ↦ inr l
    | inl a ↦ elim (cases_lt d.lo (above p)) [
      | inr l ↦ absurd (lies_below e d u m n p f h met l)
      | inl b ↦ elim (cases_lt d.lo p.lo) [
        | inl c ↦ inl (p.lo, omega (arith, c), a, omega arith, f.ordered)
        | inr c ↦ inl (d.lo, omega arith, d.ordered, c, b)
      ]
    ]
  ]
