-- Bases, as the journal of a node gives them, and the copies that a node need not send to another again
use Rattle.std.specs.Prelude.{◌≡◌, ◌≢◌, ℕ, ◌<◌, ◌≤◌, max, nat_eq, if◌then◌else◌, false, List, [], ◌∷◌, length, take, Some}
use Rattle.std.specs.FinMap as map
use Rattle.rambo_names.specs.Quorums.{QuorumSystem}
use Rattle.rambo_tag.specs.declared.version.Version.{Version}
use Rattle.rambo_tag.specs.Tags.{is_newer}
use Rattle.rambo_node.specs.Acts.{Act}
use Rattle.rambo_node.specs.Nodes.{NodeState}
use Rattle.rambo_node.specs.Steps.{Step}
use Rattle.rambo_run.specs.Journals.{journal}
use Rattle.rambo_run.specs.Runs.{run}
use Rattle.rambo_run.specs.Worlds.{node_at}
use Rattle.rambo_node.specs.FullNodes.{heard_in}
use Rattle.rambo_node.specs.Acts as act

-- the heard number that an act brings from j: that of a letter of j that comes
abbrev pub brought_by : {Q : Type 0} → ℕ → Act Q → ℕ
brought_by j (act.Hear l) = if nat_eq l.sender j then heard_in l.kind else 0
brought_by j _ = 0

-- a node's base for j: the greatest heard number that letters of j carried to it, 0 where none came
abbrev pub base_in : {Q : Type 0} → ℕ → List (Act Q) → ℕ
base_in j [] = 0
base_in j (c ∷ cs) = max (brought_by j c) (base_in j cs)

-- the step after m steps was the last that changed what node n holds of the key, which has been v since; before it the
-- node was x
pub record IsLastChange {Q : Type 0} (s : QuorumSystem Q) (founders : Q) (steps : List (Step Q)) (n : ℕ) (key : List ℕ) (v : Version) (m : ℕ) (x : NodeState Q) : Type 0 where
  pub within : m < length steps
  pub before : node_at (run s founders (take m steps)) n ≡ Some x
  pub differs : map.get x.registers key ≢ Some v
  pub since : (k : ℕ) (y : NodeState Q) → m < k → k ≤ length steps → node_at (run s founders (take k steps)) n ≡ Some y → map.get y.registers key ≡ Some v

-- what node n last changed under a number below its base for j, j holds at least
abbrev pub OldCopiesAreHeld : {Q : Type 0} → QuorumSystem Q → Type 0
OldCopiesAreHeld {Q} s =
    (founders : Q) (steps : List (Step Q)) (n j : ℕ) (y : NodeState Q) (key : List ℕ) (v : Version) (m : ℕ) (x : NodeState Q)
    → node_at (run s founders steps) j ≡ Some y → IsLastChange s founders steps n key v m x
    → x.number < base_in j (journal s founders n steps) → is_newer (map.get y.registers key) v ≡ false
