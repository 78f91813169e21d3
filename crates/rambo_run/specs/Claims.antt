-- What holds of every run
use Rattle.std.specs.Prelude.{◌≡◌, ◌≢◌, ◌⊎◌, ℕ, ◌+◌, ◌<◌, ◌≤◌, List, ◌++◌, take, length, Some, None, slice_get, AllPairs, true, false}
use Rattle.std.specs.FinSet as set
use Rattle.std.specs.FinMap as map
use Rattle.rambo_names.specs.Quorums.{QuorumSystem}
use Rattle.rambo_tag.specs.Tags.{tag_lt, tag_of}
use Rattle.rambo_tag.specs.Copies.{joined}
use Rattle.rambo_history.specs.declared.event.CallId.{CallId}
use Rattle.rambo_history.specs.Calls.{key_of, is_get}
use Rattle.rambo_history.specs.Histories.{answered_before}
use Rattle.rambo_history.specs.Proper.{IsProper, IsProperForAll, Stands}
use Rattle.rambo_config_map.specs.Maps.{active_at, end_of}
use Rattle.rambo_joiner.specs.Statuses.{is_active}
use Rattle.rambo_phase.specs.Phases.{above}
use Rattle.rambo_calls.specs.Calls.{CallState}
use Rattle.rambo_calls.specs.Hearing.{restarted}
use Rattle.rambo_node.specs.Letters.{letter_for}
use Rattle.rambo_node.specs.Nodes.{NodeState, heard_from}
use Rattle.rambo_node.specs.Steps.{Step}
use Rattle.rambo_node.specs.declared.step.StepOf.TheVariants as step
use Rattle.rambo_sequence.specs.declared.mark.Mark.{Mark}
use Rattle.rambo_sequence.specs.Sequences.{sequence_of}
use Rattle.rambo_sequence.specs.Laws.{marks_of, IsSequence, Differ}
use Rattle.rambo_sequence.specs.StoreOrders.{IsOrder, NoTwice, all_calls}
use Rattle.rambo_run.specs.Worlds.{WorldState, node_at, letter_at}
use Rattle.rambo_run.specs.Steps.{refusal}
use Rattle.rambo_run.specs.Runs.{run, given_sequences, given_order}

-- for each key the given sequence is proper for the history
abbrev pub IsAtomic : {Q : Type 0} → WorldState Q → Type 0
IsAtomic w = (key : List ℕ) → IsProper w.history key (sequence_of w.history w.marks key)

-- a node holds this configuration at this place, after these steps
abbrev pub Holds : {Q : Type 0} → QuorumSystem Q → Q → List (Step Q) → ℕ → ℕ → Q → Type 0
Holds {Q} s founders steps n p c = (x : NodeState Q) × (node_at (run s founders steps) n ≡ Some x) × (active_at x.map p ≡ Some c)

-- two nodes, at one moment of the run or at two, hold the same configuration at one place
abbrev pub Agrees : {Q : Type 0} → QuorumSystem Q → Q → List (Step Q) → Type 0
Agrees {Q} s founders steps =
    (early late rest : List (Step Q)) (n k p : ℕ) (c d : Q) → steps ≡ early ++ late ++ rest
    → Holds s founders early n p c → Holds s founders (early ++ late) k p d → c ≡ d

-- y holds at least what x holds. To merge the copies of x into those of y changes none of them, so of each key the tag
-- is no less. The map is no less at either end
pub record AtLeast {Q : Type 0} (x y : NodeState Q) : Type 0 where
  pub copies : joined y.registers x.registers ≡ y.registers
  pub tags : (key : List ℕ) → tag_lt (tag_of (map.get y.registers key)) (tag_of (map.get x.registers key)) ≡ false
  pub floor : x.map.floor ≤ y.map.floor
  pub top : end_of x.map ≤ end_of y.map

-- the step after this many steps is this one, and isn't refused
abbrev pub IsDone : {Q : Type 0} → QuorumSystem Q → Q → List (Step Q) → ℕ → Step Q → Type 0
IsDone s founders steps m st = (slice_get steps m ≡ Some st) × (refusal s (run s founders (take m steps)) st ≡ None)

-- the letter that j sent to n after `told` steps, when it was `replier` and active, came to n since
pub record IsHeard {Q : Type 0} (s : QuorumSystem Q) (founders : Q) (steps : List (Step Q)) (n j told : ℕ) (replier : NodeState Q) : Type 0 where
  pub active : is_active replier.status ≡ true
  pub sent : IsDone s founders steps told (step.Send j n)
  pub letter : ℕ
  pub number : letter ≡ length (run s founders (take told steps)).letters + 1
  pub heard_at : ℕ
  pub later : told < heard_at
  pub came : IsDone s founders steps heard_at (step.Deliver letter)
  pub content : letter_at (run s founders (take heard_at steps)).letters letter ≡ Some (letter_for replier n)

-- n asked j: after `began` steps or later, with no lesser number than `asked`, it sent j a letter, which came before j
-- replied
pub record IsAsked {Q : Type 0} (s : QuorumSystem Q) (founders : Q) (steps : List (Step Q)) (n asked began j told : ℕ) : Type 0 where
  pub sent_at : ℕ
  pub since : began ≤ sent_at
  pub asker : NodeState Q
  pub asker_is : node_at (run s founders (take sent_at steps)) n ≡ Some asker
  pub number : asked ≤ asker.number
  pub letter : IsHeard s founders steps j n sent_at asker
  pub before : letter.heard_at < told

-- j replied to what n, which is x now, asks under this number. n took the number after `began` steps. j replied after
-- `told` steps: it had heard that number, in a letter that n sent it since, and held all that n held when it took it.
-- What j reported came to n, which holds it. n itself replies as it begins to ask
pub record IsFresh {Q : Type 0} (s : QuorumSystem Q) (founders : Q) (steps : List (Step Q)) (n : ℕ) (x : NodeState Q) (asked j : ℕ) : Type 0 where
  pub began : ℕ
  pub told : ℕ
  pub order : began ≤ told
  pub now : told ≤ length steps
  pub opener : NodeState Q
  pub opener_is : node_at (run s founders (take began steps)) n ≡ Some opener
  pub number : opener.number ≡ asked
  pub first : (m : ℕ) (x : NodeState Q) → m < began → node_at (run s founders (take m steps)) n ≡ Some x → x.number < asked
  pub replier : NodeState Q
  pub replier_is : node_at (run s founders (take told steps)) j ≡ Some replier
  pub heard : ((j ≡ n) × (told ≡ began)) ⊎ ((asked ≤ heard_from replier.heard n) × IsAsked s founders steps n asked began j told × IsHeard s founders steps n j told replier)
  pub holds : AtLeast opener replier
  pub kept : AtLeast replier x

-- a reply to a phase of a call, which began there: the call had it newly, with the map of its node. So its lowest place
-- is the floor of that map; and the map of the node that replied had no place above the phase
pub record IsFreshReply {Q : Type 0} (s : QuorumSystem Q) (founders : Q) (steps : List (Step Q)) (n : ℕ) (x : NodeState Q) (c : CallState Q) (j : ℕ) : Type 0 where
  pub fresh : IsFresh s founders steps n x c.phase.number j
  pub asks : Stands fresh.opener.calls (restarted c.phase.number fresh.opener.map n c)
  pub lo : c.phase.lo ≡ fresh.opener.map.floor
  pub within : end_of fresh.replier.map ≤ above c.phase

-- each counted reply was given after its sender had heard a letter that was sent since the phase began, and came in one
-- that was sent then
abbrev pub RepliesAreFresh : {Q : Type 0} → QuorumSystem Q → Type 0
RepliesAreFresh {Q} s =
    (founders : Q) (steps : List (Step Q)) (n : ℕ) (x : NodeState Q) → node_at (run s founders steps) n ≡ Some x
    → (c : CallState Q) → Stands x.calls c → (j : ℕ) → set.contains c.phase.repliers j ≡ true → IsFreshReply s founders steps n x c j

-- of every run, of any founders and steps, the given sequences are proper
abbrev pub EveryRunIsAtomic : {Q : Type 0} → QuorumSystem Q → Type 0
EveryRunIsAtomic {Q} s = (founders : Q) (steps : List (Step Q)) → IsAtomic (run s founders steps)

-- no call occurs twice in the given sequences, the given order is one order of them, and it is proper for all keys
pub record HasOneOrder {Q : Type 0} (w : WorldState Q) : Type 0 where
  pub once : NoTwice (all_calls (given_sequences w))
  pub is_order : IsOrder w.history (given_sequences w) (given_order w)
  pub proper : IsProperForAll w.history (given_order w)

-- that holds of every run
abbrev pub EveryRunHasOneOrder : {Q : Type 0} → QuorumSystem Q → Type 0
EveryRunHasOneOrder {Q} s = (founders : Q) (steps : List (Step Q)) → HasOneOrder (run s founders steps)

-- no two marks are of one call, and no two of one key tie
pub record MarksDiffer {Q : Type 0} (w : WorldState Q) : Type 0 where
  pub calls : AllPairs (λ a b. a.id ≢ b.id) w.marks
  pub ties : (key : List ℕ) → AllPairs (Differ w.history) (marks_of key w.marks)

-- that holds of every run
abbrev pub EveryRunsMarksDiffer : {Q : Type 0} → QuorumSystem Q → Type 0
EveryRunsMarksDiffer {Q} s = (founders : Q) (steps : List (Step Q)) → MarksDiffer (run s founders steps)

-- the given sequence of each key is the only one that its marks have, and the given order the only one of the sequences
pub record GivesNoOther {Q : Type 0} (w : WorldState Q) : Type 0 where
  pub sequence : (key : List ℕ) (calls : List CallId) → IsSequence w.history w.marks key calls → calls ≡ sequence_of w.history w.marks key
  pub order : (order : List CallId) → IsOrder w.history (given_sequences w) order → order ≡ given_order w

-- that holds of every run
abbrev pub EveryRunGivesNoOther : {Q : Type 0} → QuorumSystem Q → Type 0
EveryRunGivesNoOther {Q} s = (founders : Q) (steps : List (Step Q)) → GivesNoOther (run s founders steps)

-- and nodes hold the same configurations
abbrev pub EveryRunAgrees : {Q : Type 0} → QuorumSystem Q → Type 0
EveryRunAgrees {Q} s = (founders : Q) (steps : List (Step Q)) → Agrees s founders steps

-- what two nodes hold of a key, at one moment of the run or at two, is the same if its tag is
abbrev pub OneTagOneCopy : {Q : Type 0} → QuorumSystem Q → Type 0
OneTagOneCopy {Q} s =
    (founders : Q) (steps : List (Step Q)) (m n u k : ℕ) (x y : NodeState Q) → node_at (run s founders (take m steps)) n ≡ Some x → node_at (run s founders (take u steps)) k ≡ Some y
    → (key : List ℕ) → tag_of (map.get x.registers key) ≡ tag_of (map.get y.registers key) → map.get x.registers key ≡ map.get y.registers key

-- of two calls of a key, of which the first was answered before the second was made, the second has no lesser tag.
-- Where it is a set it has a greater one
abbrev pub TagsFollowAnswers : {Q : Type 0} → QuorumSystem Q → Type 0
TagsFollowAnswers {Q} s =
    (founders : Q) (steps : List (Step Q)) (a b : Mark) → Stands (run s founders steps).marks a → Stands (run s founders steps).marks b
    → key_of a.op ≡ key_of b.op → answered_before (run s founders steps).history a.id b.id ≡ true
    → (tag_lt (tag_of b.kept) (tag_of a.kept) ≡ false) × (is_get b.op ≡ false → tag_lt (tag_of a.kept) (tag_of b.kept) ≡ true)
