-- Places are removed only after a collection; what collections carry never falls; later phases read what was propagated
use Rattle.std.proofs.Common.{◌≡◌, ℕ, zero, suc, ◌+◌, ◌<◌, ◌≤◌, true, List, Option, Some, slice_get, refl, sym, ap, ◌∙◌, subst, inl, inr, ⊎_elim, arith, eq-or-lt_of_le}
use Rattle.std.proofs.lemmas.Bool.{cases_lt}
use Rattle.rambo_names.specs.Quorums.{QuorumSystem, IsSound}
use Rattle.rambo_config_map.specs.Maps.{active_at}
use Rattle.rambo_node.specs.Nodes.{NodeState, first_node}
use Rattle.rambo_node.specs.Steps.{Step}
use Rattle.rambo_run.specs.Worlds.{WorldState, node_at}
use Rattle.rambo_node.specs.declared.step.StepOf.TheVariants as step
use Rattle.rambo_run.specs.Claims.{AtLeast, IsDone}
use Rattle.rambo_run.specs.Configurations.{begun, HasTold, IsCollected, RemovedPlacesAreCollected, CollectionsNeverFall}
use Rattle.rambo_run.proofs.Turn.{Moments, Telling, Run}
use Rattle.rambo_run.proofs.Events.{none_or_some}
use Rattle.rambo_run.proofs.Held.{HoldsAll, holds_trans, up}
use Rattle.rambo_run.proofs.Places.{HeldAt}
use Rattle.rambo_run.proofs.Agreement.{agreement}
use Rattle.rambo_run.proofs.Phases.{CountedReply}
use Rattle.rambo_run.proofs.Collections.{FirstQuorum, Collected, collection_number, removed}
use Rattle.rambo_run.proofs.Questions.{turned_by, ended_by, opened_by}
use Rattle.rambo_run.proofs.Sights.{Worlds, Happens, Came, at}
use Rattle.rambo_run.proofs.Worlds.{run_of}
use Rattle.rambo_run.proofs.Moments.{moment, worlds}
use Rattle.rambo_run.proofs.NodeLists.{node_is, node_stays, nowhere}
use Rattle.rambo_run.proofs.FreshReplies.{at_least, holds_all, replier_there}

module _ {Q : Type 0} (s : QuorumSystem Q) (founders : Q) (ss : List (Step Q)) where
  abbrev world : ℕ → WorldState Q
  world m = moment s founders ss m

  abbrev all : Worlds s founders (moment s founders ss)
  all = worlds s founders ss

  abbrev pub then : Moments Q
  then m n = at s founders (moment s founders ss) (worlds s founders ss) m n

  abbrev pub Letter : Telling
  Letter m n u j = Came s founders (moment s founders ss) (worlds s founders ss) m n u j

  abbrev pub runs : Run s (Came s founders (moment s founders ss) (worlds s founders ss)) founders (at s founders (moment s founders ss) (worlds s founders ss))
  runs = run_of s founders (moment s founders ss) (worlds s founders ss)

  pub is_then : (m n : ℕ) (x : NodeState Q) → node_at (world m) n ≡ Some x → x ≡ then m n
  is_then m n x e = node_is s founders (moment s founders ss) all m n x e

  first_number : (n : ℕ) → (first_node s founders n).number ≡ 0
  unfolding first_node
  first_number n = refl

  -- who took a number is a node
  asker_there : (m u n : ℕ) → 1 ≤ (then m n).number → node_at (world u) n ≡ Some (then u n)
  asker_there m u n h = elim (none_or_some (node_at (world m) n)) [
    | inr r ↦ node_stays s founders (moment s founders ss) all m u n r.0 r.1
    | inl q ↦ absurd (let z : (then m n).number ≡ 0 = ap (λ x. x.number) (nowhere s founders (moment s founders ss) all m n q) ∙ first_number n in omega (arith, z, h))
  ]

  -- a counted reply
  abbrev has_told : (n t e j asked : ℕ) → ((u : ℕ) → node_at (world u) n ≡ Some (then u n)) → 1 ≤ asked → (r : CountedReply Letter then n t e j asked) → HasTold s founders ss t e j (then t n)
  has_told n t e j asked there positive r = record {
    told = r.moment;
    later = r.reply.since;
    before = r.reply.before;
    replier = then r.moment j;
    replier_is = replier_there s founders (moment s founders ss) all e t r.moment n j asked (then e n) (there e) positive r.heard;
    holds = at_least (then t n) (then r.moment j) r.reply.told;
  }

  -- a step that isn't refused
  abbrev Does : ℕ → Step Q → Type 0
  Does m st = Happens s founders (moment s founders ss) (worlds s founders ss) m st

  is_done : (m : ℕ) (st : Step Q) → Does m st → IsDone s founders ss m st
  unfolding worlds
  is_done m st h = h

  -- a collection was opened in the step before the moment at which it has its number first
  opened_in : (k p e t : ℕ) (g : FirstQuorum Letter s then k p e t) → (u : ℕ) × (e ≡ suc u) × Does u (step.Collect k)
  opened_in k p zero t g = absurd (let z = ap (λ x. x.number) (runs.first k) ∙ first_number k in omega (arith, g.took, g.positive, z))
  opened_in k p (suc u) t g =
      let low : (then u k).number < g.asked.number = elim (cases_lt (then u k).number g.asked.number) [ inl l ↦ l | inr l ↦ absurd (let b = g.fresh.by u l in omega (arith, b)) ] in (
        u,
        refl,
        opened_by s founders (moment s founders ss) all u k (begun g.asked) g.asks g.quorum.stage
            (λ d i. let n = collection_number s founders then runs u k d i in omega (arith, n, low)),
      )

  pub collected_by : (p e : ℕ) (g : Collected Letter s then p e) → Does g.ended (step.AdvanceCollect g.node) → IsCollected s founders ss e p
  collected_by p e g does =
      let there : (u : ℕ) → node_at (world u) g.node ≡ Some (then u g.node) = λ u. asker_there g.opened u g.node (omega (arith, g.first.took, g.first.positive)) in
      let o = opened_in g.node p g.opened g.turned g.first in
      let plus : suc g.turned ≡ g.turned + 1 = omega arith in
      record {
        node = g.node;
        began = o.0;
        opened = g.opened;
        turned = g.turned;
        ended = g.ended;
        opens = is_done o.0 (step.Collect g.node) o.2;
        next_opened = omega (arith, o.1);
        turns = is_done g.turned (step.AdvanceCollect g.node)
            (turned_by s founders (moment s founders ss) all g.turned g.node g.first.asked (begun g.asked) g.first.is_open g.first.quorum.stage g.asks g.quorum.stage);
        ends = is_done g.ended (step.AdvanceCollect g.node) does;
        order = g.first.order;
        later = g.later;
        before = g.before;
        opener = then g.opened g.node;
        opener_is = there g.opened;
        lowest = g.first.floor;
        next = g.first.next;
        turner = then g.turned g.node;
        turner_is = there g.turned;
        first = g.first.asked;
        first_begun = g.first.asks;
        first_open = g.first.is_open;
        first_place = g.first.place;
        first_number = sym g.first.took;
        first_quorum = g.first.quorum;
        first_told = λ j i. let r = g.first.replies j i in
            (has_told g.node g.opened g.turned j g.first.asked.number there g.first.positive r, at_least (then r.moment j) (then g.turned g.node) r.reply.kept);
        asker = then (suc g.turned) g.node;
        asker_is = subst (λ u. node_at (world u) g.node ≡ Some (then (suc g.turned) g.node)) plus (there (suc g.turned));
        ender = then g.ended g.node;
        ender_is = there g.ended;
        second = g.asked;
        second_begun = g.asks;
        second_open = g.is_open;
        second_place = g.place;
        second_quorum = g.quorum;
        second_told = λ j i. let r = g.replies j i in
            let h = has_told g.node (suc g.turned) g.ended j g.asked.number there g.positive r in
            record {
              told = h.told;
              later = omega (arith, h.later);
              before = h.before;
              replier = h.replier;
              replier_is = h.replier_is;
              holds = at_least (then g.turned g.node) (then r.moment j)
                  (holds_trans (then g.turned g.node) (then (suc g.turned) g.node) (then r.moment j) (up s founders then runs g.turned (suc g.turned) g.node (omega arith)) r.reply.told);
            };
        still_lowest = omega (arith, g.first.floor, g.quorum.kept, g.place, (up s founders then runs g.opened g.ended g.node (omega (arith, g.first.order, g.later))).floor);
      }

  -- a place that a node's map has removed was collected
  pub removed_by : (m n : ℕ) (x : NodeState Q) → node_at (world m) n ≡ Some x → (p : ℕ) → p < x.map.floor → (g : IsCollected s founders ss m p) × (g.ended < m)
  unfolding collected_by
  removed_by m n x e p h =
      let r = removed s founders then runs m n p (subst (λ x. p < x.map.floor) (is_then m n x e) h) in
      (collected_by p m r.0 (ended_by s founders (moment s founders ss) all r.0.ended r.0.node r.0.asked r.0.is_open r.1), r.2)

  -- the configuration of a quorum was held
  first_held : (until p : ℕ) (g : IsCollected s founders ss until p) → HeldAt then p g.first_quorum.met.config
  first_held until p g = record {
    moment = g.turned;
    node = g.node;
    active = (λ i. active_at (sym (is_then g.turned g.node g.turner g.turner_is) i).map (sym g.first_place i)) ∙ g.first_quorum.met.active;
  }

  second_held : (until p : ℕ) (g : IsCollected s founders ss until p) → HeldAt then (p + 1) g.second_quorum.met.config
  second_held until p g = record {
    moment = g.ended;
    node = g.node;
    active = (λ i. active_at (sym (is_then g.ended g.node g.ender g.ender_is) i).map (sym g.second_place i + 1)) ∙ g.second_quorum.met.active;
  }

  -- what a node told earlier, it held when it told again
  told_up : (a b c d j : ℕ) (x y : NodeState Q) (t : HasTold s founders ss a b j x) (u : HasTold s founders ss c d j y) → b ≤ c → HoldsAll t.replier u.replier
  told_up a b c d j x y t u h =
      let k = up s founders then runs t.told u.told j (omega (arith, t.before, u.later, h)) in
      subst (λ x. HoldsAll x u.replier) (sym (is_then t.told j t.replier t.replier_is)) (subst (HoldsAll (then t.told j)) (sym (is_then u.told j u.replier u.replier_is)) k)

  other_step : (a b : ℕ) → ◌≡◌ {A = Option (Step Q)} (Some (step.AdvanceCollect a)) (Some (step.Collect b)) → ⊥
  other_step a b e = cc

  -- a collection of a next place that was opened after one of this place was over carries at least what that one did
  pub carries : IsSound s → (until u p : ℕ) (h : IsCollected s founders ss until p) (g : IsCollected s founders ss u (p + 1)) → h.ended ≤ g.opened → AtLeast h.turner g.turner
  carries law until u p h g order =
      let old : Q = h.second_quorum.met.config in
      let same : old ≡ g.first_quorum.met.config = agreement s law founders then runs (p + 1) old g.first_quorum.met.config (second_held until p h) (first_held u (p + 1) g) in
      let r = law.share old h.second.repliers g.first.repliers h.second_quorum.met.quorum (subst (λ c. s.is_quorum c g.first.repliers ≡ true) (sym same) g.first_quorum.met.quorum) in
      let j : ℕ = r.0 in
      let t = h.second_told j r.2 in
      let u = g.first_told j r.3 in
      let k = told_up (h.turned + 1) h.ended g.opened g.turned j h.turner g.opener t u.0 order in
      at_least h.turner g.turner (holds_trans h.turner t.replier g.turner (holds_all h.turner t.replier t.holds) (holds_trans t.replier u.0.replier g.turner k (holds_all u.0.replier g.turner u.1)))

  -- no step both ends one and opens another
  pub over : (until u p q : ℕ) (h : IsCollected s founders ss until p) (g : IsCollected s founders ss u q) → h.ended < g.opened → h.ended < g.began
  over until u p q h g l = ⊎_elim (λ e. absurd (other_step h.node g.node (sym h.ends.0 ∙ ap (slice_get ss) e ∙ g.opens.0))) (λ l. l) (eq-or-lt_of_le (omega (arith, l, g.next_opened)))

  never_falls : IsSound s → (until p : ℕ) (g : IsCollected s founders ss until (p + 1)) → (h : IsCollected s founders ss g.opened p) × (h.ended < g.began) × AtLeast h.turner g.turner
  never_falls law until p g =
      let o = removed_by g.opened g.node g.opener g.opener_is p (omega (arith, g.lowest)) in
      (o.0, over g.opened until p (p + 1) o.0 g o.1, carries law g.opened until p o.0 g o.0.before)

-- a place that a node's map has removed was collected
pub removed_places_are_collected : {Q : Type 0} (s : QuorumSystem Q) → RemovedPlacesAreCollected s
removed_places_are_collected s founders ss m n x e p h = removed_by s founders ss m n x e p h

-- what collections carry from place to place never falls
pub collections_never_fall : {Q : Type 0} (s : QuorumSystem Q) → IsSound s → CollectionsNeverFall s
collections_never_fall s law founders ss until p g = never_falls s founders ss law until p g
