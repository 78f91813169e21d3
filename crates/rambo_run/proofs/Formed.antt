-- What is well formed in every node: a place is active, a collection leaves one behind it, an attempt isn't ahead
use Rattle.std.proofs.Common.{◌≡◌, ℕ, zero, suc, ◌+◌, ◌<◌, ◌≤◌, ◌⊎◌, nat_eq, nat_le, ◌∷◌, [], length, Option, Some, None, refl, sym, ap, ◌∙◌, subst, inl, inr, ⊎_elim, arith, eq-or-lt_of_le, leb-true, length-append, length-drop}
use Rattle.std.specs.FinSet as set
use Rattle.rambo_names.specs.Quorums.{QuorumSystem}
use Rattle.rambo_config_map.specs.Maps.{MapState, end_of, learnt, without_lowest}
use Rattle.rambo_config_map.specs.Merging.{HasActive}
use Rattle.rambo_config_map.specs.MapLaws.{merged_end, merged_active}
use Rattle.rambo_gc.specs.Collections.{CollectionState}
use Rattle.rambo_gc.specs.Collections as collection
use Rattle.rambo_paxos.specs.declared.proposal.Proposal.{Proposal}
use Rattle.rambo_paxos.specs.Attempts.{AttemptState, replies_to, told_by, heard_vote, opened, proposing, advanced_in, advanced}
use Rattle.rambo_paxos.specs.Votes.{VoteState}
use Rattle.rambo_paxos.specs.declared.stage.Stage.TheVariants as stage
use Rattle.rambo_gossip.specs.Gossips.{GossipState}
use Rattle.rambo_node.specs.Nodes.{NodeState, first_node}
use Rattle.rambo_node.specs.Letters.{gossip_for}
use Rattle.rambo_node.specs.Hearing.{heard_gossip, collection_after, attempt_after}
use Rattle.rambo_bids.specs.Hearing.{is_level, heard_for}
use Rattle.rambo_node.specs.Operations.{called, query_answered, call_closed, called_again}
use Rattle.rambo_node.specs.Reconfigurations.{attempt_opened, attempt_rebid, attempt_moved, config_learnt, attempt_ended, collection_opened, collection_moved, collection_ended}
use Rattle.rambo_run.proofs.Lists.{pick, some_inj, none-some}
use Rattle.rambo_run.proofs.Turn.{Moments, Telling, IsBacked, Alters, collects, seconds, finishes, opens, rebids, proposes, chooses, gives_up, Turn, stays, knows, calls, hears, queried, answers, agains, alters, Run}
use Rattle.rambo_run.proofs.Altering.{MapMove, map_stays, map_loses, map_gains, map_move}

pub record IsFormed {Q : Type 0} (x : NodeState Q) : Type 0 where
  pub active : HasActive x.map
  pub room : (g : CollectionState) → x.collection ≡ Some g → g.place + 1 < end_of x.map
  pub place : (a : AttemptState Q) → x.attempt ≡ Some a → a.place ≤ end_of x.map

-- the collection that a letter leaves is the old one, with the sender more where it had heard the number
pub record IsCounted (d : CollectionState) (j heard : ℕ) (g : CollectionState) : Type 0 where
  pub node : g.node ≡ d.node
  pub place : g.place ≡ d.place
  pub stage : g.stage ≡ d.stage
  pub number : g.number ≡ d.number
  pub repliers : (g.repliers ≡ d.repliers) ⊎ ((g.repliers ≡ set.insert d.repliers j) × (d.number ≤ heard))

counted_once : (d : CollectionState) (j heard : ℕ) → IsCounted d j heard (collection.heard d j heard)
counted_once d j heard = elim (pick (nat_le d.number heard) (record d { repliers = set.insert d.repliers j }) d) [
  | inl p ↦ subst (IsCounted d j heard) (sym p.1) (record { node = refl; place = refl; stage = refl; number = refl; repliers = inr (refl, leb-true d.number heard p.0) })
  | inr p ↦ subst (IsCounted d j heard) (sym p.1) (record { node = refl; place = refl; stage = refl; number = refl; repliers = inl refl })
]

pub collection_heard : (o : Option CollectionState) (j heard : ℕ) (g : CollectionState) → collection_after o j heard ≡ Some g
    → (d : CollectionState) × (o ≡ Some d) × IsCounted d j heard g
collection_heard None j heard g e = absurd (none-some g e)
collection_heard (Some d) j heard g e = (d, refl, subst (IsCounted d j heard) (some_inj (collection.heard d j heard) g e) (counted_once d j heard))

pub same_place : {Q : Type 0} (a : AttemptState Q) (j : ℕ) (v : VoteState Q) → (heard_vote a j v).place ≡ a.place
unfolding heard_vote
same_place a j v = elim (pick (replies_to a.stage a.ballot v) (record a { stage = told_by a.stage v; repliers = set.insert a.repliers j }) a) [ inl p ↦ ap (λ a. a.place) p.1 | inr p ↦ ap (λ a. a.place) p.1 ]

-- the attempt that a letter leaves is for the place of the old one
heard_place : {Q : Type 0} (place : ℕ) (o : Option (AttemptState Q)) (j : ℕ) (v : VoteState Q) (a : AttemptState Q) → heard_for place o j v ≡ Some a
    → (b : AttemptState Q) × (o ≡ Some b) × (a.place ≡ b.place)
heard_place place None j v a e = absurd (none-some a e)
heard_place place (Some b) j v a e = (
  b,
  refl,
  elim (pick (nat_eq b.place place) (heard_vote b j v) b) [
    | inl p ↦ ap (λ a. a.place) (sym (some_inj _ a e) ∙ p.1) ∙ same_place b j v
    | inr p ↦ ap (λ a. a.place) (sym (some_inj _ a e) ∙ p.1)
  ],
)

pub attempt_heard : {Q : Type 0} (x : NodeState Q) (j : ℕ) (g : GossipState Q) (a : AttemptState Q) → attempt_after x j g ≡ Some a
    → (b : AttemptState Q) × (x.attempt ≡ Some b) × (a.place ≡ b.place)
attempt_heard x j g a e = elim (pick (is_level x.map g.map) (heard_for (end_of g.map) x.attempt j g.vote) x.attempt) [
  | inl p ↦ heard_place (end_of g.map) x.attempt j g.vote a (sym p.1 ∙ e)
  | inr p ↦ (a, sym p.1 ∙ e, refl)
]

-- a node whose map, collection and attempt stay
formed_same : {Q : Type 0} (x y : NodeState Q) → IsFormed x → y.map ≡ x.map → y.collection ≡ x.collection → y.attempt ≡ x.attempt → IsFormed y
formed_same x y f m c a = record {
  active = subst HasActive (sym m) f.active;
  room = λ g e. subst (λ m. g.place + 1 < end_of m) (sym m) (f.room g (sym c ∙ e));
  place = λ b e. subst (λ m. b.place ≤ end_of m) (sym m) (f.place b (sym a ∙ e));
}

formed_heard : {Q : Type 0} (x : NodeState Q) (j : ℕ) (g : GossipState Q) → IsFormed x → HasActive g.map → IsFormed (heard_gossip x j g)
unfolding heard_gossip
formed_heard x j g f h =
    let e = merged_end x.map g.map f.active h in
    record {
      active = merged_active x.map g.map f.active h;
      room = λ c i. let r = collection_heard x.collection j g.heard c i in omega (arith, f.room r.0 r.1, r.2.place, e);
      place = λ a i. let r = attempt_heard x j g a i in omega (arith, f.place r.0 r.1, r.2, e);
    }

-- a place that is removed leaves the end of the map
pub lost_end : {Q : Type 0} (m : MapState Q) → 1 < length m.configs → end_of (without_lowest m) ≡ end_of m
lost_end m h = omega (arith, h, length-drop 1 m.configs)

pub gained_end : {Q : Type 0} (m : MapState Q) (c : Q) → end_of (learnt m c) ≡ end_of m + 1
gained_end m c = omega (arith, length-append m.configs (c ∷ []))

-- where a collection of the lowest place ends, another place is active
pub loses_room : {Q : Type 0} (x : NodeState Q) (g : CollectionState) → IsFormed x → x.collection ≡ Some g → x.map.floor ≤ g.place → 1 < length x.map.configs
loses_room x g f e h = omega (arith, f.room g e, h)

-- an attempt whose place isn't known is for the first unknown place
pub backed_place : {Q : Type 0} (s : QuorumSystem Q) (x : NodeState Q) (a : AttemptState Q) → IsFormed x → IsBacked s x a → a.place ≡ end_of x.map
backed_place s x a f b = omega (arith, f.place a b.is_open, b.place)

-- an attempt that proposes is for its old place
pub proposing_place : {Q : Type 0} (a : AttemptState Q) (told : Option (Proposal Q)) (v : VoteState Q) → a.stage ≡ stage.Prepare told → (advanced a v).place ≡ a.place
unfolding proposing
proposing_place a told v e = ap (λ g. (advanced_in g a v).place) e

module _ {Q : Type 0} (s : QuorumSystem Q) where
  -- neither end of a map falls
  pub map_grows : (x y : NodeState Q) → IsFormed x → MapMove s x y → HasActive y.map × (x.map.floor ≤ y.map.floor) × (end_of x.map ≤ end_of y.map)
  map_grows x y f (map_stays e) = (subst HasActive (sym e) f.active, omega (arith, ap (λ m. m.floor) e), omega (arith, ap end_of e))
  map_grows x y f (map_loses g i h e o) =
      let room : 1 < length x.map.configs = loses_room x g f i h.kept in
      (subst HasActive (sym e) (omega (arith, room, length-drop 1 x.map.configs)), omega (arith, ap (λ m. m.floor) e), omega (arith, ap end_of e, lost_end x.map room))
  map_grows x y f (map_gains a c b g e) =
      (subst HasActive (sym e) (omega (arith, length-append x.map.configs (c ∷ []))), omega (arith, ap (λ m. m.floor) e), omega (arith, ap end_of e, gained_end x.map c))

  formed_altered : (x y : NodeState Q) → IsFormed x → Alters s x y → IsFormed y
  unfolding attempt_opened attempt_rebid attempt_moved config_learnt attempt_ended collection_opened collection_moved collection_ended opened
  formed_altered x y f (collects h e) = subst IsFormed (sym e) (record {
    active = f.active;
    room = λ g i. subst (λ g. g.place + 1 < end_of x.map) (some_inj _ g i) (omega (arith, h));
    place = f.place;
  })
  formed_altered x y f (seconds g i d e) = subst IsFormed (sym e) (record {
    active = f.active;
    room = λ k j. subst (λ g. g.place + 1 < end_of x.map) (some_inj _ k j) (f.room g i);
    place = f.place;
  })
  formed_altered x y f (finishes g i d e) =
      let m = map_grows x y f (map_move s x y (finishes g i d e)) in
      record {
        active = m.0;
        room = λ k j. absurd (none-some k (sym (ap (λ y. y.collection) e) ∙ j));
        place = λ a j. omega (arith, m.2, f.place a (sym (ap (λ y. y.attempt) e) ∙ j));
      }
  formed_altered x y f (opens wish e) = subst IsFormed (sym e) (record {
    active = f.active;
    room = f.room;
    place = λ b j. subst (λ b. b.place ≤ end_of x.map) (some_inj _ b j) (omega arith);
  })
  formed_altered x y f (rebids a i p e) = subst IsFormed (sym e) (record {
    active = f.active;
    room = f.room;
    place = λ b j. subst (λ b. b.place ≤ end_of x.map) (some_inj _ b j) (f.place a i);
  })
  formed_altered x y f (proposes a t b g e) = subst IsFormed (sym e) (record {
    active = f.active;
    room = f.room;
    place = λ c j. subst (λ b. b.place ≤ end_of x.map) (some_inj _ c j) (omega (arith, f.place a b.is_open, proposing_place a t x.vote g));
  })
  formed_altered x y f (chooses a c b g e) =
      let m = map_grows x y f (map_move s x y (chooses a c b g e)) in
      record {
        active = m.0;
        room = λ k j. omega (arith, m.2, f.room k (sym (ap (λ y. y.collection) e) ∙ j));
        place = λ a j. absurd (none-some a (sym (ap (λ y. y.attempt) e) ∙ j));
      }
  formed_altered x y f (gives_up a i p e) = subst IsFormed (sym e) (record { active = f.active; room = f.room; place = λ b j. absurd (none-some b j) })

module _ {Q : Type 0} {T : Telling} (s : QuorumSystem Q) (founders : Q) (at : Moments Q) (run : Run s T founders at) where
  formed_turn : (m n : ℕ) → ((u j : ℕ) → u ≤ m → IsFormed (at u j)) → (y : NodeState Q) → Turn s T at m n (at m n) y → IsFormed y
  unfolding called query_answered call_closed called_again
  formed_turn m n f y (stays e) = subst IsFormed (sym e) (f m n (omega arith))
  formed_turn m n f y (knows st known e) = formed_same (at m n) y (f m n (omega arith)) (ap (λ y. y.map) e) (ap (λ y. y.collection) e) (ap (λ y. y.attempt) e)
  formed_turn m n f y (calls o e) = formed_same (at m n) y (f m n (omega arith)) (ap (λ y. y.map) e) (ap (λ y. y.collection) e) (ap (λ y. y.attempt) e)
  formed_turn m n f y (hears u j h a b t e) = subst IsFormed (sym e) (formed_heard (at m n) j (gossip_for (at u j) n) (f m n (omega arith)) (f u j h).active)
  formed_turn m n f y (queried c i p h e) = formed_same (at m n) y (f m n (omega arith)) (ap (λ y. y.map) e) (ap (λ y. y.collection) e) (ap (λ y. y.attempt) e)
  formed_turn m n f y (answers c i p h e) = formed_same (at m n) y (f m n (omega arith)) (ap (λ y. y.map) e) (ap (λ y. y.collection) e) (ap (λ y. y.attempt) e)
  formed_turn m n f y (agains c i e) = formed_same (at m n) y (f m n (omega arith)) (ap (λ y. y.map) e) (ap (λ y. y.collection) e) (ap (λ y. y.attempt) e)
  formed_turn m n f y (alters a) = formed_altered s (at m n) y (f m n (omega arith)) a

  formed_first : (n : ℕ) → IsFormed (first_node s founders n)
  unfolding first_node
  formed_first n = record { active = omega arith; room = λ g e. absurd (none-some g e); place = λ a e. absurd (none-some a e) }

  -- at all moments up to m
  formed_to : (m u n : ℕ) → u ≤ m → IsFormed (at u n)
  formed_to zero u n h =
      let z : u ≡ 0 = omega arith in subst (λ u. IsFormed (at u n)) (sym z) (subst IsFormed (sym (run.first n)) (formed_first n))
  formed_to (suc m) u n h = ⊎_elim
      (λ e. subst (λ u. IsFormed (at u n)) (sym e) (formed_turn m n (formed_to m) (at (suc m) n) (run.turn m n)))
      (λ l. formed_to m u n (omega (arith, l))) (eq-or-lt_of_le h)

  pub formed : (m n : ℕ) → IsFormed (at m n)
  formed m n = formed_to m m n (omega arith)
