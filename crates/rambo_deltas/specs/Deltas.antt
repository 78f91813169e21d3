-- The nodes of a run with their stamps and bases, and what their letters may leave out
use mathlib.Core.List.{IsPrefix}
use Rattle.std.specs.Prelude.{◌≡◌, ℕ, List, Some}
use Rattle.std.specs.FinMap as map
use Rattle.rambo_names.specs.Names.{IsName}
use Rattle.rambo_names.specs.Quorums.{QuorumSystem}
use Rattle.rambo_tag.specs.declared.version.Version.{Version}
use Rattle.rambo_tag.specs.Copies.{Copies}
use Rattle.rambo_gossip.specs.Short as letters
use Rattle.rambo_node.specs.Letters.{letter_for}
use Rattle.rambo_node.specs.Nodes.{NodeState, heard_from}
use Rattle.rambo_node.specs.Steps.{Step}
use Rattle.rambo_run.specs.Journals.{journal}
use Rattle.rambo_run.specs.Runs.{run}
use Rattle.rambo_run.specs.Worlds.{node_at, held_by}
use Rattle.rambo_deltas.specs.Bases.{base_in, IsLastChange}
use Rattle.rambo_node.specs.FullNodes.{FullNode, fully_replayed, first_full, IsDelta, delta_letter}
use Rattle.rambo_tag.specs.Stamps.{IsShort}

-- node n of a run, with its stamps and bases
unfoldable pub full_at : {Q : Type 0} → QuorumSystem Q → Q → List (Step Q) → ℕ → FullNode Q
full_at s founders steps n = fully_replayed (first_full s founders n) (journal s founders n steps)

-- it is the node of the run
abbrev pub FullNodesAreNodes : {Q : Type 0} → QuorumSystem Q → Type 0
FullNodesAreNodes {Q} s = (founders : Q) (steps : List (Step Q)) (n : ℕ) → IsName n → node_at (run s founders steps) n ≡ Some (full_at s founders steps n).state

-- each stamp is the phase number before the step that last changed its copy
abbrev pub StampsAreNumbers : {Q : Type 0} → QuorumSystem Q → Type 0
StampsAreNumbers {Q} s =
    (founders : Q) (steps : List (Step Q)) (n : ℕ) (key : List ℕ) (v : Version) → IsName n → map.get (full_at s founders steps n).state.registers key ≡ Some v
    → (m : ℕ) × (x : NodeState Q) × IsLastChange s founders steps n key v m x × (map.get (full_at s founders steps n).stamps key ≡ Some x.number)

-- each base is the greatest heard number that letters of the name carried
abbrev pub BasesAreCarried : {Q : Type 0} → QuorumSystem Q → Type 0
BasesAreCarried {Q} s =
    (founders : Q) (steps : List (Step Q)) (n j : ℕ) → IsName j → heard_from (full_at s founders steps n).bases j ≡ base_in j (journal s founders n steps)

-- in a letter to j, what node n has since its base for j is enough in place of all that it has
abbrev pub DeltasAreShort : {Q : Type 0} → QuorumSystem Q → Type 0
DeltasAreShort {Q} s =
    (founders : Q) (steps : List (Step Q)) (n j : ℕ) (p : Copies) → IsName n → IsName j → IsDelta (full_at s founders steps n) j p
    → IsShort p (full_at s founders steps n).state.registers (held_by (run s founders steps) j)

-- and such a letter can replace the whole one at each later moment too
abbrev pub LaterToo : {Q : Type 0} → QuorumSystem Q → Type 0
LaterToo {Q} s =
    (founders : Q) (xs ys : List (Step Q)) (n j : ℕ) (p : Copies) → IsPrefix xs ys → IsName n → IsName j → IsDelta (full_at s founders xs n) j p
    → letters.IsShort (delta_letter (full_at s founders xs n) j p) (letter_for (full_at s founders xs n).state j) (held_by (run s founders ys) j)
