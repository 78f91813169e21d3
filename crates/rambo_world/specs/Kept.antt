-- How the nodes and the letters of a world are stored. A letter goes without its copies, which are those of a prefix of
-- its sender's log, and its addressee hears of them only what it lacks
use Rattle.std.specs.Prelude.{◌≡◌, ℕ, ◌+◌, ◌-◌, ◌≤◌, if◌then◌else◌, List, [], ◌∷◌, ◌++◌, map, take, length, Option, None, Some, slice_get, slice_set}
use Rattle.std.specs.FinMap as copies
use Rattle.std.specs.Option.{IsSomeAnd}
use Rattle.rambo_names.specs.Names.{IsName}
use Rattle.rambo_tag.specs.declared.keyed_version.KeyedVersion.{KeyedVersion}
use Rattle.rambo_tag.specs.Copies.{Copies, joined}
use Rattle.rambo_tag.specs.Logs.{greatest_of}
use Rattle.rambo_joiner.specs.Statuses.{is_active}
use Rattle.rambo_logs.specs.NodeLogs.{part, lacked}
use Rattle.rambo_logs.specs.Merged.{merged_at}
use Rattle.rambo_letters.specs.Kept.{SentState}
use Rattle.rambo_gossip.specs.Kinds as kind
use Rattle.rambo_gossip.specs.Letters.{LetterState, letter_with}
use Rattle.rambo_node.specs.Letters.{letter_for}
use Rattle.rambo_node.specs.Nodes.{NodeState, RoomyNode}
use Rattle.rambo_run.specs.Worlds.{node_at}

-- a node as it is stored, with the log of the copies that its registers took, the oldest first
pub record KeptNode (Q : Type 0) : Type 0 where
  pub node : RoomyNode Q
  pub log : List KeyedVersion

-- nodes with their logs; one that has none has the empty one
abbrev pub kept_of : {Q : Type 0} → List (RoomyNode Q) → List (List KeyedVersion) → List (KeptNode Q)
kept_of [] ls = []
kept_of (x ∷ xs) [] = record { node = x; log = [] } ∷ kept_of xs []
kept_of (x ∷ xs) (l ∷ ls) = record { node = x; log = l } ∷ kept_of xs ls

-- new is old with more at its end
abbrev pub Extends : List KeyedVersion → List KeyedVersion → Type 0
Extends old new = (more : List KeyedVersion) × (new ≡ old ++ more)

abbrev pub state_of : {Q : Type 0} → KeptNode Q → NodeState Q
state_of k = k.node.state

abbrev pub states_of : {Q : Type 0} → List (KeptNode Q) → List (NodeState Q)
states_of ks = map state_of ks

abbrev pub log_of : {Q : Type 0} → KeptNode Q → List KeyedVersion
log_of k = k.log

abbrev pub logs_of : {Q : Type 0} → List (KeptNode Q) → List (List KeyedVersion)
logs_of ks = map log_of ks

-- nodes without their room
abbrev pub node_state : {Q : Type 0} → RoomyNode Q → NodeState Q
node_state x = x.state

abbrev pub node_states : {Q : Type 0} → List (RoomyNode Q) → List (NodeState Q)
node_states xs = map node_state xs

-- all nodes are as before, but for their room
pub record SameBarRoom {Q : Type 0} (old new : List (KeptNode Q)) : Type 0 where
  pub states : states_of new ≡ states_of old
  pub logs : logs_of new ≡ logs_of old

abbrev pub kept_at : {Q : Type 0} → List (KeptNode Q) → ℕ → Option (KeptNode Q)
kept_at ks name = slice_get ks (name - 1)

abbrev pub log_in : {Q : Type 0} → Option (KeptNode Q) → List KeyedVersion
log_in None = []
log_in (Some k) = k.log

-- the log of the node of a name
abbrev pub log_at : {Q : Type 0} → List (KeptNode Q) → ℕ → List KeyedVersion
log_at ks name = log_in (kept_at ks name)

-- of a part of the log of a letter's sender, the copies that its addressee lacks
abbrev pub brought : {Q : Type 0} → List (KeptNode Q) → LetterState Q → ℕ → ℕ → Copies
brought ks l start end = greatest_of (lacked (greatest_of (log_at ks l.addressee)) (part (log_at ks l.sender) start end))

-- the letter as it was sent
abbrev pub whole_letter : {Q : Type 0} → List (KeptNode Q) → SentState Q → LetterState Q
whole_letter ks s = letter_with s.letter (greatest_of (take s.told (log_at ks s.letter.sender)))

abbrev pub whole_letters : {Q : Type 0} → List (KeptNode Q) → List (SentState Q) → List (LetterState Q)
whole_letters ks ss = map (whole_letter ks) ss

-- the nodes, with this one for a name and its log unchanged
abbrev pub with_node : {Q : Type 0} → List (KeptNode Q) → ℕ → RoomyNode Q → List (KeptNode Q)
with_node ks name x = slice_set ks (name - 1) (record { node = x; log = log_at ks name })

-- the letter of a node as it is stored, where the node's log has this many copies
abbrev pub outline_by : {Q : Type 0} → NodeState Q → ℕ → ℕ → SentState Q
outline_by x to logged = record { letter = letter_with (letter_for x to) copies.empty; told = if is_active x.status then logged else 0 }

abbrev pub outline : {Q : Type 0} → KeptNode Q → ℕ → SentState Q
outline k to = outline_by k.node.state to (length k.log)

-- the states, with the one of a name changed
abbrev pub moved_in : {Q : Type 0} → ℕ → Option (NodeState Q) → (NodeState Q → NodeState Q) → List (NodeState Q) → List (NodeState Q)
moved_in name None f xs = xs
moved_in name (Some x) f xs = slice_set xs (name - 1) (f x)

abbrev pub state_at : {Q : Type 0} → List (KeptNode Q) → ℕ → Option (NodeState Q)
state_at ks name = node_at (record { nodes = states_of ks; letters = []; history = []; marks = [] }) name

abbrev pub moved : {Q : Type 0} → List (KeptNode Q) → ℕ → (NodeState Q → NodeState Q) → List (NodeState Q)
moved ks name f = moved_in name (state_at ks name) f (states_of ks)

-- the copies of a node are the greatest of its log
abbrev pub IsRecorded : {Q : Type 0} → KeptNode Q → Type 0
IsRecorded k = k.node.state.registers ≡ greatest_of k.log

-- a node after a step: it keeps its name, and its log grows at its end, so that its copies stay recorded
pub record Grows {Q : Type 0} (old new : KeptNode Q) : Type 0 where
  pub name : new.node.state.name ≡ old.node.state.name
  pub extends : Extends old.log new.log
  pub recorded : IsRecorded old → IsRecorded new

-- all nodes after a step
pub record AllGrow {Q : Type 0} (old new : List (KeptNode Q)) : Type 0 where
  pub count : length new ≡ length old
  pub grow : (place : ℕ) (x : KeptNode Q) → slice_get old place ≡ Some x → IsSomeAnd (slice_get new place) (Grows x)

-- a letter that is stored: it has no more copies than its sender's log, and none where it doesn't gossip
pub record IsSent {Q : Type 0} (ks : List (KeptNode Q)) (s : SentState Q) : Type 0 where
  pub within : s.told ≤ length (log_at ks s.letter.sender)
  pub join : s.letter.kind ≡ kind.Join → s.told ≡ 0

-- a node has merged what its counts say
pub record HasMerged {Q : Type 0} (ks : List (KeptNode Q)) (counts : List ℕ) (to from : ℕ) (k : KeptNode Q) : Type 0 where
  pub within : merged_at counts to from ≤ length (log_at ks from)
  pub holds : joined k.node.state.registers (greatest_of (take (merged_at counts to from) (log_at ks from))) ≡ k.node.state.registers

-- what holds of the nodes, the letters and the counts of every world. The nodes are those of the names 1 to 64, and
-- their copies are recorded. Letters have only copies that were logged, and what counts as merged was merged
pub record IsKept {Q : Type 0} (ks : List (KeptNode Q)) (ss : List (SentState Q)) (ms : List ℕ) : Type 0 where
  pub nodes : length ks ≡ 64
  pub counts : length ms ≡ 4096
  pub names : (place : ℕ) (k : KeptNode Q) → slice_get ks place ≡ Some k → k.node.state.name ≡ place + 1
  pub recorded : (place : ℕ) (k : KeptNode Q) → slice_get ks place ≡ Some k → IsRecorded k
  pub sent : (place : ℕ) (s : SentState Q) → slice_get ss place ≡ Some s → IsSent ks s
  pub merged : (to from : ℕ) (k : KeptNode Q) → IsName to → IsName from → kept_at ks to ≡ Some k → HasMerged ks ms to from k
