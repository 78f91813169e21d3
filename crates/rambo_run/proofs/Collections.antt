-- Every open collection has its beginning, and what it counted was told since then; a place is removed only after a whole
-- collection of it
use Rattle.std.proofs.Common.{◌≡◌, ℕ, zero, suc, ◌+◌, ◌<◌, ◌≤◌, true, nat_eq, ◌||◌, length, Some, None, refl, sym, ap, ◌∙◌, subst, inl, inr, ⊎_elim, arith, eq-or-lt_of_le, eqb-true}
use Rattle.std.proofs.lemmas.Bool.{cases_lt}
use Rattle.std.specs.Cmp.{nat_cmp_total, unsigned_tied}
use Rattle.std.specs.FinSet as set
use Rattle.rambo_names.specs.Names.{NameSet}
use Rattle.rambo_names.specs.Quorums.{QuorumSystem}
use Rattle.rambo_config_map.specs.Maps.{end_of}
use Rattle.rambo_gc.specs.declared.gc_move.GcMove.TheVariants.{Propagating}
use Rattle.rambo_gc.specs.declared.stage.Stage.{Stage}
use Rattle.rambo_gc.specs.declared.stage.Stage.TheVariants.{First, Second}
use Rattle.rambo_gc.specs.Collections.{CollectionState, only, opened, moved}
use Rattle.rambo_gc.specs.Turns.{HasFirstQuorum, HasSecondQuorum}
use Rattle.rambo_gc.specs.CollectionLaws.{second_stage}
use Rattle.rambo_node.specs.Nodes.{NodeState, first_node, heard_from}
use Rattle.rambo_node.specs.Hearing.{collection_after, heard_gossip}
use Rattle.rambo_node.specs.Operations.{called, query_answered, call_closed, called_again}
use Rattle.rambo_node.specs.Reconfigurations.{attempt_opened, attempt_rebid, attempt_moved, config_learnt, attempt_ended, collection_opened, collection_moved, collection_ended}
use Rattle.rambo_run.specs.Configurations.{begun}
use Rattle.rambo_run.proofs.Lists.{pick, some_inj, none-some}
use Rattle.rambo_run.proofs.Turn.{Moments, Telling, Alters, collects, seconds, finishes, opens, rebids, proposes, chooses, gives_up, Turn, stays, knows, calls, hears, queried, answers, agains, alters, Run}
use Rattle.rambo_run.proofs.Altering.{MapTurn, map_merges, map_moves, map_stays, map_loses, map_gains, map_turn}
use Rattle.rambo_run.proofs.Formed.{IsCounted, collection_heard}
use Rattle.rambo_run.proofs.Held.{HoldsAll, up, number_up, names, active, hear_right, Fresh, fresh}
use Rattle.rambo_run.proofs.Phases.{CountedReply, own_counted, later_counted, new_counted, only_one, or_second}

-- a stage of a collection of n that began at t, as it is at m
pub record StageAt {Q : Type 0} (T : Telling) (at : Moments Q) (t m n number : ℕ) (who : NameSet) : Type 0 where
  pub before : t ≤ m
  pub took : (at t n).number ≡ number
  pub positive : 1 ≤ number
  pub fresh : Fresh at n number t
  pub replies : (j : ℕ) → set.contains who j ≡ true → CountedReply T at n t m j number

-- a collection of place k by n, which opened at one moment, and at another had the first quorum that it asked
pub record FirstQuorum {Q : Type 0} (T : Telling) (s : QuorumSystem Q) (at : Moments Q) (n k opened turned : ℕ) : Type 0 where
  pub order : opened ≤ turned
  pub floor : (at opened n).map.floor ≡ k
  pub next : k + 1 < end_of (at opened n).map
  pub asked : CollectionState
  pub is_open : (at turned n).collection ≡ Some asked
  pub place : asked.place ≡ k
  pub took : (at opened n).number ≡ asked.number
  pub positive : 1 ≤ asked.number
  pub fresh : Fresh at n asked.number opened
  pub asks : (at opened n).collection ≡ Some (begun asked)
  pub quorum : HasFirstQuorum s (at turned n).map asked
  pub replies : (j : ℕ) → set.contains asked.repliers j ≡ true → CountedReply T at n opened turned j asked.number

-- a collection in its second stage, which began in the step after it had its first quorum
pub record SecondAt {Q : Type 0} (T : Telling) (s : QuorumSystem Q) (at : Moments Q) (opened m n : ℕ) (g : CollectionState) : Type 0 where
  pub turned : ℕ
  pub first : FirstQuorum T s at n g.place opened turned
  pub asks : (at (suc turned) n).collection ≡ Some (begun g)
  pub now : StageAt T at (suc turned) m n g.number g.repliers

-- the open collection g of n at moment m
pub record CollectionAt {Q : Type 0} (T : Telling) (s : QuorumSystem Q) (at : Moments Q) (m n : ℕ) (g : CollectionState) : Type 0 where
  pub node : g.node ≡ n
  pub opened : ℕ
  pub before : opened ≤ m
  pub floor : (at opened n).map.floor ≡ g.place
  pub next : g.place + 1 < end_of (at opened n).map
  pub asks : g.stage ≡ First → (at opened n).collection ≡ Some (begun g)
  pub early : g.stage ≡ First → StageAt T at opened m n g.number g.repliers
  pub late : g.stage ≡ Second → SecondAt T s at opened m n g

-- a collection of place k that had its second quorum by moment e
pub record Collected {Q : Type 0} (T : Telling) (s : QuorumSystem Q) (at : Moments Q) (k e : ℕ) : Type 0 where
  pub node : ℕ
  pub opened : ℕ
  pub turned : ℕ
  pub ended : ℕ
  pub later : turned < ended
  pub before : ended ≤ e
  pub first : FirstQuorum T s at node k opened turned
  pub asked : CollectionState
  pub asks : (at (suc turned) node).collection ≡ Some (begun asked)
  pub is_open : (at ended node).collection ≡ Some asked
  pub place : asked.place ≡ k
  pub positive : 1 ≤ asked.number
  pub quorum : HasSecondQuorum s (at ended node).map asked
  pub replies : (j : ℕ) → set.contains asked.repliers j ≡ true → CountedReply T at node (suc turned) ended j asked.number

-- and that ended before moment e
abbrev pub CollectedOver : {Q : Type 0} → Telling → QuorumSystem Q → Moments Q → ℕ → ℕ → Type 0
CollectedOver T s at k e = (g : Collected T s at k e) × ((at (suc g.ended) g.node).collection ≡ None) × (g.ended < e)

-- what a turn makes of the open collection
data CollectionTurn {Q : Type 0} (T : Telling) (s : QuorumSystem Q) (at : Moments Q) (m n : ℕ) (x y : NodeState Q) : Type 0 where
  c_stays : y.collection ≡ x.collection → CollectionTurn T s at m n x y
  c_hears : (u j : ℕ) → u ≤ m → 1 ≤ n → T m n u j → HoldsAll (at u j) y → y.collection ≡ collection_after x.collection j (heard_from (at u j).heard n) → CollectionTurn T s at m n x y
  c_opens : 1 < length x.map.configs → y.map ≡ x.map → y.number ≡ x.number + 1 → y.collection ≡ Some (opened x.map (x.number + 1) x.name) → CollectionTurn T s at m n x y
  c_moves : (g : CollectionState) → x.collection ≡ Some g → HasFirstQuorum s x.map g → y.number ≡ x.number + 1 → y.collection ≡ Some (moved (Some Propagating) (x.number + 1) g) → CollectionTurn T s at m n x y
  c_ends : y.collection ≡ None → CollectionTurn T s at m n x y

collection_altered : {Q : Type 0} {T : Telling} (s : QuorumSystem Q) (at : Moments Q) (m n : ℕ) (x y : NodeState Q) → Alters s x y → CollectionTurn T s at m n x y
unfolding attempt_opened attempt_rebid attempt_moved config_learnt attempt_ended collection_opened collection_moved collection_ended
collection_altered s at m n x y (collects h e) = c_opens h (ap (λ y. y.map) e) (ap (λ y. y.number) e) (ap (λ y. y.collection) e)
collection_altered s at m n x y (seconds g i d e) = c_moves g i (second_stage s x.map g d) (ap (λ y. y.number) e) (ap (λ y. y.collection) e)
collection_altered s at m n x y (finishes g i d e) = c_ends (ap (λ y. y.collection) e)
collection_altered s at m n x y (opens wish e) = c_stays (ap (λ y. y.collection) e)
collection_altered s at m n x y (rebids a i p e) = c_stays (ap (λ y. y.collection) e)
collection_altered s at m n x y (proposes a t b g e) = c_stays (ap (λ y. y.collection) e)
collection_altered s at m n x y (chooses a c b g e) = c_stays (ap (λ y. y.collection) e)
collection_altered s at m n x y (gives_up a i p e) = c_stays (ap (λ y. y.collection) e)

module _ {Q : Type 0} {T : Telling} (s : QuorumSystem Q) (founders : Q) (at : Moments Q) (run : Run s T founders at) where
  abbrev OnceMore : ℕ → ℕ → Type 0
  OnceMore m n = CollectionTurn T s at m n (at m n) (at (suc m) n)

  collection_turn : (m n : ℕ) → Turn s T at m n (at m n) (at (suc m) n) → OnceMore m n
  unfolding called query_answered call_closed called_again heard_gossip
  collection_turn m n (stays e) = c_stays (ap (λ y. y.collection) e)
  collection_turn m n (knows st known e) = c_stays (ap (λ y. y.collection) e)
  collection_turn m n (calls o e) = c_stays (ap (λ y. y.collection) e)
  collection_turn m n (hears u j h a b t e) =
      c_hears u j h b t (subst (HoldsAll (at u j)) (sym e) (hear_right (at m n) j n (at u j) (active s founders at run m n) (active s founders at run u j))) (ap (λ y. y.collection) e)
  collection_turn m n (queried c i p h e) = c_stays (ap (λ y. y.collection) e)
  collection_turn m n (answers c i p h e) = c_stays (ap (λ y. y.collection) e)
  collection_turn m n (agains c i e) = c_stays (ap (λ y. y.collection) e)
  collection_turn m n (alters a) = collection_altered s at m n (at m n) (at (suc m) n) a

  -- a stage begins under a new number, with the node's own reply
  stage_begins : (m n : ℕ) (number : ℕ) (name : ℕ) → number ≡ (at m n).number + 1 → (at (suc m) n).number ≡ (at m n).number + 1 → name ≡ n → StageAt T at (suc m) (suc m) n number (set.insert set.empty name)
  stage_begins m n number name k e f = record {
    before = omega arith;
    took = e ∙ sym k;
    positive = omega (arith, k);
    fresh = fresh s founders at run m n number (omega (arith, k));
    replies = λ j i. subst (λ j. CountedReply T at n (suc m) (suc m) j number) (sym (only_one name j i ∙ f)) (own_counted s founders at run n (suc m) number);
  }

  -- a moment passes
  stage_lasts : (t m n number : ℕ) (who : NameSet) → StageAt T at t m n number who → StageAt T at t (suc m) n number who
  stage_lasts t m n number who f = record {
    before = omega (arith, f.before);
    took = f.took;
    positive = f.positive;
    fresh = f.fresh;
    replies = λ j i. later_counted s founders at run n t m (suc m) j number (omega arith) (f.replies j i);
  }

  -- a letter is counted
  stage_counts : (t m n number : ℕ) (who : NameSet) → StageAt T at t m n number who → (u j : ℕ) → u ≤ m → 1 ≤ n → number ≤ heard_from (at u j).heard n → HoldsAll (at u j) (at (suc m) n) → T m n u j
      → StageAt T at t (suc m) n number (set.insert who j)
  stage_counts t m n number who f u j h a c k came = record {
    before = omega (arith, f.before);
    took = f.took;
    positive = f.positive;
    fresh = f.fresh;
    replies = λ i r. elim (pick (nat_eq i j) true (set.contains who i)) [
      | inl e ↦ subst (λ i. CountedReply T at n t (suc m) i number) (sym (eqb-true i j e.0)) (new_counted s founders at run n number t m j u a f.fresh h c k came)
      | inr e ↦ later_counted s founders at run n t m (suc m) i number (omega arith)
          (f.replies i (or_second (nat_eq i j) (set.contains who i) e.0 (sym (set.contains-insert nat_cmp_total who j i ∙ ap (λ t. t || set.contains who i) (unsigned_tied i j)) ∙ r)))
    ];
  }

  stage_hears : (t m n u j : ℕ) (d g : CollectionState) → StageAt T at t m n d.number d.repliers → IsCounted d j (heard_from (at u j).heard n) g → u ≤ m → 1 ≤ n → HoldsAll (at u j) (at (suc m) n) → T m n u j
      → StageAt T at t (suc m) n g.number g.repliers
  stage_hears t m n u j d g f c h a k came =
      subst (λ number. StageAt T at t (suc m) n number g.repliers) (sym c.number)
      (⊎_elim
      (λ e. subst (StageAt T at t (suc m) n d.number) (sym e) (stage_lasts t m n d.number d.repliers f))
      (λ r. subst (StageAt T at t (suc m) n d.number) (sym r.0) (stage_counts t m n d.number d.repliers f u j h a r.1 k came)) c.repliers)

  lasts : (m n : ℕ) (g : CollectionState) → CollectionAt T s at m n g → CollectionAt T s at (suc m) n g
  lasts m n g f = record {
    node = f.node;
    opened = f.opened;
    before = omega (arith, f.before);
    floor = f.floor;
    next = f.next;
    asks = f.asks;
    early = λ e. stage_lasts f.opened m n g.number g.repliers (f.early e);
    late = λ e. let l = f.late e in record { turned = l.turned; first = l.first; asks = l.asks; now = stage_lasts (suc l.turned) m n g.number g.repliers l.now };
  }

  -- a letter leaves the question as it began
  begun_same : (d g : CollectionState) (j heard : ℕ) → IsCounted d j heard g → begun d ≡ begun g
  begun_same d g j heard c = λ i. record { node = sym c.node i; place = sym c.place i; number = sym c.number i; stage = sym c.stage i; repliers = only (sym c.node i) }

  heard_on : (m n u j : ℕ) (d g : CollectionState) → CollectionAt T s at m n d → IsCounted d j (heard_from (at u j).heard n) g → u ≤ m → 1 ≤ n → HoldsAll (at u j) (at (suc m) n) → T m n u j → CollectionAt T s at (suc m) n g
  heard_on m n u j d g f c h a k came = record {
    node = c.node ∙ f.node;
    opened = f.opened;
    before = omega (arith, f.before);
    floor = f.floor ∙ sym c.place;
    next = omega (arith, f.next, c.place);
    asks = λ e. f.asks (sym c.stage ∙ e) ∙ ap Some (begun_same d g j (heard_from (at u j).heard n) c);
    early = λ e. stage_hears f.opened m n u j d g (f.early (sym c.stage ∙ e)) c h a k came;
    late = λ e. let l = f.late (sym c.stage ∙ e) in record {
      turned = l.turned;
      first = subst (λ p. FirstQuorum T s at n p f.opened l.turned) (sym c.place) l.first;
      asks = l.asks ∙ ap Some (begun_same d g j (heard_from (at u j).heard n) c);
      now = stage_hears (suc l.turned) m n u j d g l.now c h a k came;
    };
  }

  first≢second : First ≡ Second → ⊥
  first≢second e = cc

  -- the first quorum was there
  moves_on : (m n : ℕ) (g : CollectionState) → (at m n).collection ≡ Some g → CollectionAt T s at m n g → HasFirstQuorum s (at m n).map g → (at (suc m) n).number ≡ (at m n).number + 1
      → (at (suc m) n).collection ≡ Some (moved (Some Propagating) ((at m n).number + 1) g)
      → CollectionAt T s at (suc m) n (moved (Some Propagating) ((at m n).number + 1) g)
  moves_on m n g i f q e c =
      let stage = f.early q.stage in
      record {
        node = f.node;
        opened = f.opened;
        before = omega (arith, f.before);
        floor = f.floor;
        next = f.next;
        asks = λ z. absurd (first≢second (sym z));
        early = λ z. absurd (first≢second (sym z));
        late = λ z. record {
          turned = m;
          first = record {
            order = f.before;
            floor = f.floor;
            next = f.next;
            asked = g;
            is_open = i;
            place = refl;
            took = stage.took;
            positive = stage.positive;
            fresh = stage.fresh;
            asks = f.asks q.stage;
            quorum = q;
            replies = stage.replies;
          };
          asks = c;
          now = stage_begins m n ((at m n).number + 1) g.node refl e f.node;
        };
      }

  abbrev AllAt : ℕ → ℕ → Type 0
  AllAt m n = (g : CollectionState) → (at m n).collection ≡ Some g → CollectionAt T s at m n g

  collection_on : (m n : ℕ) → AllAt m n → OnceMore m n → AllAt (suc m) n
  collection_on m n f (c_stays e) k i = lasts m n k (f k (sym e ∙ i))
  collection_on m n f (c_hears u j h a came k e) g i =
      let r = collection_heard (at m n).collection j (heard_from (at u j).heard n) g (sym e ∙ i) in heard_on m n u j r.0 g (f r.0 r.1) r.2 h a k came
  collection_on m n f (c_opens h same e c) k i =
      let x = at m n in
      let map = ap (λ p. p.floor) same in
      subst (CollectionAt T s at (suc m) n) (some_inj (opened x.map (x.number + 1) x.name) k (sym c ∙ i)) (record {
        node = names s founders at run m n;
        opened = suc m;
        before = omega arith;
        floor = map;
        next = omega (arith, h, ap end_of same);
        asks = λ _. c;
        early = λ _. stage_begins m n (x.number + 1) x.name refl e (names s founders at run m n);
        late = λ z. absurd (first≢second z);
      })
  collection_on m n f (c_moves g i q e c) k j = subst (CollectionAt T s at (suc m) n) (some_inj (moved (Some Propagating) ((at m n).number + 1) g) k (sym c ∙ j)) (moves_on m n g i (f g i) q e c)
  collection_on m n f (c_ends e) k i = absurd (none-some k (sym e ∙ i))

  -- each open collection has its beginning, and its replies were told since then
  pub collection_at : (m n : ℕ) → AllAt m n
  unfolding first_node
  collection_at zero n = λ g i. absurd (none-some g (sym (ap (λ x. x.collection) (run.first n)) ∙ i))
  collection_at (suc m) n = collection_on m n (collection_at m n) (collection_turn m n (run.turn m n))

  -- an open collection asks under a number that its node took
  pub collection_number : (m n : ℕ) (g : CollectionState) → (at m n).collection ≡ Some g → g.number ≤ (at m n).number
  collection_number m n g i = by_stage g.stage refl (collection_at m n g i)
    where
      by_stage : (stage : Stage) → g.stage ≡ stage → CollectionAt T s at m n g → g.number ≤ (at m n).number
      by_stage First z o = let f = o.early z in omega (arith, f.took, number_up s founders at run o.opened m n f.before)
      by_stage Second z o = let l = o.late z in omega (arith, l.now.took, number_up s founders at run (suc l.turned) m n l.now.before)

  abbrev still_whole : (k m e : ℕ) → m ≤ e → Collected T s at k m → Collected T s at k e
  still_whole k m e h g =
      record {
        node = g.node;
        opened = g.opened;
        turned = g.turned;
        ended = g.ended;
        later = g.later;
        before = omega (arith, g.before, h);
        first = g.first;
        asked = g.asked;
        asks = g.asks;
        is_open = g.is_open;
        place = g.place;
        positive = g.positive;
        quorum = g.quorum;
        replies = g.replies;
      }

  still : (k m e : ℕ) → m ≤ e → CollectedOver T s at k m → CollectedOver T s at k e
  still k m e h o = (still_whole k m e h o.0, o.1, omega (arith, o.2, h))

  -- the second quorum was there
  abbrev pub ends : (m n : ℕ) (g : CollectionState) → (at m n).collection ≡ Some g → CollectionAt T s at m n g → HasSecondQuorum s (at m n).map g → Collected T s at g.place m
  ends m n g i f q =
      let l = f.late q.stage in
      record {
        node = n;
        opened = f.opened;
        turned = l.turned;
        ended = m;
        later = omega (arith, l.now.before);
        before = omega arith;
        first = l.first;
        asked = g;
        asks = l.asks;
        is_open = i;
        place = refl;
        positive = l.now.positive;
        quorum = q;
        replies = l.now.replies;
      }

  -- each place below a map's floor was collected
  removed_on : (m n : ℕ) → ((u j k : ℕ) → u ≤ m → k < (at u j).map.floor → CollectedOver T s at k m) → MapTurn s at m (at m n) (at (suc m) n) → (k : ℕ) → k < (at (suc m) n).map.floor → CollectedOver T s at k (suc m)
  removed_on m n f (map_merges u j h e) k l = still k m (suc m) (omega arith) (elim (cases_lt k (at m n).map.floor) [
    | inl b ↦ f m n k (omega arith) b
    | inr b ↦ f u j k h (omega (arith, l, b, ap (λ p. p.floor) e))
  ])
  removed_on m n f (map_moves (map_stays e)) k l = still k m (suc m) (omega arith) (f m n k (omega arith) (omega (arith, l, ap (λ p. p.floor) e)))
  removed_on m n f (map_moves (map_gains a c b g e)) k l = still k m (suc m) (omega arith) (f m n k (omega arith) (omega (arith, l, ap (λ p. p.floor) e)))
  removed_on m n f (map_moves (map_loses g i q e none)) k l = elim (cases_lt k (at m n).map.floor) [
    | inl b ↦ still k m (suc m) (omega arith) (f m n k (omega arith) b)
    | inr b ↦ (let o = collection_at m n g i in
        let same : g.place ≡ k = omega (arith, l, b, q.kept, o.floor, (up s founders at run o.opened m n o.before).floor, ap (λ p. p.floor) e) in
        subst (λ k. CollectedOver T s at k (suc m)) same (still_whole g.place m (suc m) (omega arith) (ends m n g i o q), none, omega arith))
  ]

  removed_to : (m u n k : ℕ) → u ≤ m → k < (at u n).map.floor → CollectedOver T s at k m
  unfolding first_node
  removed_to zero u n k h l =
      let z : u ≡ 0 = omega arith in
      absurd (let b : k < (at 0 n).map.floor = subst (λ u. k < (at u n).map.floor) z l in omega (arith, b, ap (λ x. x.map.floor) (run.first n)))
  removed_to (suc m) u n k h l = ⊎_elim
      (λ e. removed_on m n (removed_to m) (map_turn s at m n (at m n) (at (suc m) n) (run.turn m n)) k (subst (λ u. k < (at u n).map.floor) e l))
      (λ a. still k m (suc m) (omega arith) (removed_to m u n k (omega (arith, a)) l)) (eq-or-lt_of_le h)

  -- a place that a map has removed was collected before, and that collection ended
  pub removed : (m n k : ℕ) → k < (at m n).map.floor → CollectedOver T s at k m
  removed m n k h = removed_to m m n k (omega arith) h
