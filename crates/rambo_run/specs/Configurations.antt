-- What holds of changes of configurations in every run: of collections, of phases over several configurations, of decisions
use Rattle.std.specs.Prelude.{◌≡◌, ◌⊎◌, ℕ, ◌+◌, ◌<◌, ◌≤◌, true, false, List, take, Some}
use Rattle.std.specs.FinSet as set
use Rattle.std.specs.FinMap as map
use Rattle.rambo_names.specs.Quorums.{QuorumSystem}
use Rattle.rambo_tag.specs.declared.tag.Tag.{Tag}
use Rattle.rambo_tag.specs.Tags.{tag_lt, tag_of}
use Rattle.rambo_history.specs.Calls.{key_of, is_get}
use Rattle.rambo_history.specs.Proper.{Stands}
use Rattle.rambo_config_map.specs.Maps.{end_of}
use Rattle.rambo_gc.specs.Collections.{CollectionState, only}
use Rattle.rambo_gc.specs.Turns.{HasFirstQuorum, HasSecondQuorum}
use Rattle.rambo_phase.specs.Phases.{PhaseState, above, is_met}
use Rattle.rambo_calls.specs.declared.stage.Stage.TheVariants.{Query}
use Rattle.rambo_calls.specs.Calls.{CallState, propagates, kept_in}
use Rattle.rambo_node.specs.Nodes.{NodeState}
use Rattle.rambo_node.specs.declared.effect.Effect.TheVariants as effect
use Rattle.rambo_node.specs.Steps.{Step}
use Rattle.rambo_node.specs.declared.step.StepOf.TheVariants as step
use Rattle.rambo_run.specs.Worlds.{node_at}
use Rattle.rambo_run.specs.Steps.{turn}
use Rattle.rambo_run.specs.Runs.{run}
use Rattle.rambo_run.specs.Claims.{Holds, AtLeast, IsDone, IsFresh}

-- the question of a collection as it begins: the node that collects is the only one that replied
abbrev pub begun : CollectionState → CollectionState
begun g = record g { repliers = only g.node }

-- a reply to the question of a collection: the question began there
pub record IsFreshAnswer {Q : Type 0} (s : QuorumSystem Q) (founders : Q) (steps : List (Step Q)) (n : ℕ) (x : NodeState Q) (g : CollectionState) (j : ℕ) : Type 0 where
  pub fresh : IsFresh s founders steps n x g.number j
  pub asks : fresh.opener.collection ≡ Some (begun g)

-- each reply that an open collection counts was given after its sender had heard a letter that was sent since the
-- current question began
abbrev pub CollectionRepliesAreFresh : {Q : Type 0} → QuorumSystem Q → Type 0
CollectionRepliesAreFresh {Q} s =
    (founders : Q) (steps : List (Step Q)) (n : ℕ) (x : NodeState Q) → node_at (run s founders steps) n ≡ Some x
    → (g : CollectionState) → x.collection ≡ Some g → (j : ℕ) → set.contains g.repliers j ≡ true → IsFreshAnswer s founders steps n x g j

-- node j reported something: after some steps, at least `since` and at most `until`, it was this, and held at least
-- what `asker` holds
pub record HasTold {Q : Type 0} (s : QuorumSystem Q) (founders : Q) (steps : List (Step Q)) (since until j : ℕ) (asker : NodeState Q) : Type 0 where
  pub told : ℕ
  pub later : since ≤ told
  pub before : told ≤ until
  pub replier : NodeState Q
  pub replier_is : node_at (run s founders (take told steps)) j ≡ Some replier
  pub holds : AtLeast asker replier

-- a node collected place p, by the step after `until` steps at the latest. It opened the collection by a step when p
-- was its lowest place and it knew the next one. When a quorum of p's configuration had reported the next place to it,
-- it turned by a step to the next place's configuration. At last a quorum of that one had reported that it holds all
-- that the node held as it turned. Then a step of the node ended the collection: p was still its lowest place, and so
-- was removed
pub record IsCollected {Q : Type 0} (s : QuorumSystem Q) (founders : Q) (steps : List (Step Q)) (until p : ℕ) : Type 0 where
  pub node : ℕ
  pub began : ℕ
  pub opened : ℕ
  pub turned : ℕ
  pub ended : ℕ
  pub opens : IsDone s founders steps began (step.Collect node)
  pub next_opened : opened ≡ began + 1
  pub order : opened ≤ turned
  pub turns : IsDone s founders steps turned (step.AdvanceCollect node)
  pub later : turned < ended
  pub ends : IsDone s founders steps ended (step.AdvanceCollect node)
  pub before : ended ≤ until
  pub opener : NodeState Q
  pub opener_is : node_at (run s founders (take opened steps)) node ≡ Some opener
  pub lowest : opener.map.floor ≡ p
  pub next : p + 1 < end_of opener.map
  pub turner : NodeState Q
  pub turner_is : node_at (run s founders (take turned steps)) node ≡ Some turner
  pub first : CollectionState
  pub first_begun : opener.collection ≡ Some (begun first)
  pub first_open : turner.collection ≡ Some first
  pub first_place : first.place ≡ p
  pub first_number : first.number ≡ opener.number
  pub first_quorum : HasFirstQuorum s turner.map first
  pub first_told : (j : ℕ) → set.contains first.repliers j ≡ true → (t : HasTold s founders steps opened turned j opener) × AtLeast t.replier turner
  pub asker : NodeState Q
  pub asker_is : node_at (run s founders (take (turned + 1) steps)) node ≡ Some asker
  pub ender : NodeState Q
  pub ender_is : node_at (run s founders (take ended steps)) node ≡ Some ender
  pub second : CollectionState
  pub second_begun : asker.collection ≡ Some (begun second)
  pub second_open : ender.collection ≡ Some second
  pub second_place : second.place ≡ p
  pub second_quorum : HasSecondQuorum s ender.map second
  pub second_told : (j : ℕ) → set.contains second.repliers j ≡ true → HasTold s founders steps (turned + 1) ended j turner
  pub still_lowest : ender.map.floor ≡ p

-- a place that a node's map has removed was collected, and that collection was over before
abbrev pub RemovedPlacesAreCollected : {Q : Type 0} → QuorumSystem Q → Type 0
RemovedPlacesAreCollected {Q} s =
    (founders : Q) (steps : List (Step Q)) (m n : ℕ) (x : NodeState Q) → node_at (run s founders (take m steps)) n ≡ Some x
    → (p : ℕ) → p < x.map.floor → (g : IsCollected s founders steps m p) × (g.ended < m)

-- each collection of a next place was opened after one of this place was over. When its node turned to its second
-- quorum, it held at least as much as the node of that one when it turned
abbrev pub CollectionsNeverFall : {Q : Type 0} → QuorumSystem Q → Type 0
CollectionsNeverFall {Q} s =
    (founders : Q) (steps : List (Step Q)) (until p : ℕ) (g : IsCollected s founders steps until (p + 1))
    → (h : IsCollected s founders steps g.opened p) × (h.ended < g.began) × AtLeast h.turner g.turner

-- of all collections of its place none ended before this one
abbrev pub EndedFirst : {Q : Type 0} (s : QuorumSystem Q) (founders : Q) (steps : List (Step Q)) (until p : ℕ) → IsCollected s founders steps until p → Type 0
EndedFirst s founders steps until p g = (u : ℕ) (h : IsCollected s founders steps u p) → g.ended ≤ h.ended

-- of the collections of a place that a node's map has removed one ended first, and was over before
abbrev pub FirstCollectionsAre : {Q : Type 0} → QuorumSystem Q → Type 0
FirstCollectionsAre {Q} s =
    (founders : Q) (steps : List (Step Q)) (m n : ℕ) (x : NodeState Q) → node_at (run s founders (take m steps)) n ≡ Some x
    → (p : ℕ) → p < x.map.floor → (g : IsCollected s founders steps m p) × (g.ended < m) × EndedFirst s founders steps m p g

-- the one of a place that ended first was over before any collection of the next place was opened. When the node of
-- that one turned to its second quorum, it held at least as much as the node of the first one when it turned
abbrev pub FirstCollectionsNeverFall : {Q : Type 0} → QuorumSystem Q → Type 0
FirstCollectionsNeverFall {Q} s =
    (founders : Q) (steps : List (Step Q)) (until p : ℕ) (g : IsCollected s founders steps until p) → EndedFirst s founders steps until p g
    → (u : ℕ) (h : IsCollected s founders steps u (p + 1)) → (g.ended < h.began) × AtLeast g.turner h.turner

-- the propagation of call c is met at node n after m steps. The phase of call d, which is met at node k after u steps,
-- began later than that: under a number that k hadn't reached then
pub record IsLater {Q : Type 0} (s : QuorumSystem Q) (founders : Q) (steps : List (Step Q)) (m n : ℕ) (c : CallState Q) (u k : ℕ) (d : CallState Q) : Type 0 where
  pub teller : NodeState Q
  pub teller_is : node_at (run s founders (take m steps)) n ≡ Some teller
  pub tells : Stands teller.calls c
  pub told : propagates c.stage ≡ true
  pub told_met : is_met s c.phase ≡ true
  pub before : NodeState Q
  pub before_is : node_at (run s founders (take m steps)) k ≡ Some before
  pub later : before.number < d.phase.number
  pub reader : NodeState Q
  pub reader_is : node_at (run s founders (take u steps)) k ≡ Some reader
  pub asks : Stands reader.calls d
  pub asked_met : is_met s d.phase ≡ true

-- a later phase that is met read at least the tag of what was propagated
abbrev pub LaterPhasesRead : {Q : Type 0} → QuorumSystem Q → Type 0
LaterPhasesRead {Q} s =
    (founders : Q) (steps : List (Step Q)) (m n : ℕ) (c : CallState Q) (u k : ℕ) (d : CallState Q) → (l : IsLater s founders steps m n c u k d)
    → tag_lt (tag_of (map.get l.reader.registers (key_of c.op))) (tag_of (kept_in c.stage)) ≡ false

-- node n holds a call that propagates a copy of a greater tag
pub record Raises {Q : Type 0} (s : QuorumSystem Q) (founders : Q) (steps : List (Step Q)) (m n : ℕ) (tag : Tag) (d : CallState Q) : Type 0 where
  pub node : NodeState Q
  pub node_is : node_at (run s founders (take m steps)) n ≡ Some node
  pub call : CallState Q
  pub stands : Stands node.calls call
  pub number : call.number ≡ d.number
  pub op : call.op ≡ d.op
  pub tells : propagates call.stage ≡ true
  pub greater : tag_lt tag (tag_of (kept_in call.stage)) ≡ true

-- a set of the key whose query is such a phase takes, by the step that advances it, a greater tag than was propagated
abbrev pub LaterSetsRise : {Q : Type 0} → QuorumSystem Q → Type 0
LaterSetsRise {Q} s =
    (founders : Q) (steps : List (Step Q)) (m n : ℕ) (c : CallState Q) (u k : ℕ) (d : CallState Q) → IsLater s founders steps m n c u k d
    → key_of d.op ≡ key_of c.op → is_get d.op ≡ false → d.stage ≡ Query → IsDone s founders steps u (step.Advance (record { name = k; number = d.number }))
    → Raises s founders steps (u + 1) k (tag_of (kept_in c.stage)) d

-- two phases have a place in common, or the second lies above the first
abbrev pub MeetsOrLiesAbove : {Q : Type 0} → PhaseState Q → PhaseState Q → Type 0
MeetsOrLiesAbove p q = ((place : ℕ) × (p.lo ≤ place) × (place < above p) × (q.lo ≤ place) × (place < above q)) ⊎ (above p ≤ q.lo)

-- a later phase has a place in common with the propagation that was met, or lies above it
abbrev pub LaterPhasesMeet : {Q : Type 0} → QuorumSystem Q → Type 0
LaterPhasesMeet {Q} s =
    (founders : Q) (steps : List (Step Q)) (m n : ℕ) (c : CallState Q) (u k : ℕ) (d : CallState Q) → IsLater s founders steps m n c u k d
    → MeetsOrLiesAbove c.phase d.phase

-- a place that a step reports as collected was collected, by that step or one before it
abbrev pub ToldCollectionsAreWhole : {Q : Type 0} → QuorumSystem Q → Type 0
ToldCollectionsAreWhole {Q} s =
    (founders : Q) (steps : List (Step Q)) (m n k p : ℕ) → IsDone s founders steps m (step.AdvanceCollect k)
    → (turn (run s founders (take m steps)) (step.AdvanceCollect k)).effect ≡ effect.Collected n p → IsCollected s founders steps m p

-- a place that a node's map has removed was reported as collected, by an earlier step
abbrev pub RemovedPlacesAreTold : {Q : Type 0} → QuorumSystem Q → Type 0
RemovedPlacesAreTold {Q} s =
    (founders : Q) (steps : List (Step Q)) (m n : ℕ) (x : NodeState Q) → node_at (run s founders (take m steps)) n ≡ Some x
    → (p : ℕ) → p < x.map.floor → (u : ℕ) × (k : ℕ) × (u < m) × IsDone s founders steps u (step.AdvanceCollect k)
    × ((turn (run s founders (take u steps)) (step.AdvanceCollect k)).effect ≡ effect.Collected k p)

-- the configuration that a step reports as decided for a place is the one there
abbrev pub DecisionsStand : {Q : Type 0} → QuorumSystem Q → Type 0
DecisionsStand {Q} s =
    (founders : Q) (steps : List (Step Q)) (m n k p : ℕ) (c : Q) → IsDone s founders steps m (step.AdvanceRecon k)
    → (turn (run s founders (take m steps)) (step.AdvanceRecon k)).effect ≡ effect.Decided n (record { place = p; config = Some c })
    → Holds s founders (take (m + 1) steps) n p c
