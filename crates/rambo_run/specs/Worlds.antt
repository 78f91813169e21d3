-- All nodes, and all that was ever sent, called and answered
use Rattle.std.specs.Prelude.{ℕ, zero, suc, List, [], ◌∷◌, nat_eq, Option, None, Some, slice_get}
use Rattle.std.specs.FinMap as map
use Rattle.rambo_names.specs.declared.refusal.Refusal.TheVariants.{EmptyMembers}
use Rattle.rambo_names.specs.Names.{rising, count_of}
use Rattle.rambo_names.specs.Refusals.{Cause, cause}
use Rattle.rambo_names.specs.Quorums.{QuorumSystem}
use Rattle.rambo_tag.specs.Copies.{Copies}
use Rattle.rambo_history.specs.declared.event.Event.{Event}
use Rattle.rambo_gossip.specs.Letters.{LetterState}
use Rattle.rambo_node.specs.Nodes.{NodeState, first_node}
use Rattle.rambo_sequence.specs.declared.mark.Mark.{Mark}

-- `nodes`: of the names 1, 2 and so on. `letters`: all that were ever sent, the first one sent is letter 1. `history`:
-- calls and answers in their order. `marks`: the sets that took a tag and the gets that were answered, in that order
pub record WorldState (Q : Type 0) : Type 0 where
  pub nodes : List (NodeState Q)
  pub letters : List (LetterState Q)
  pub history : List Event
  pub marks : List Mark

-- no node has the name 0
abbrev pub node_at : {Q : Type 0} → WorldState Q → ℕ → Option (NodeState Q)
node_at w zero = None
node_at w (suc i) = slice_get w.nodes i

abbrev pub copies_of : {Q : Type 0} → Option (NodeState Q) → Copies
copies_of None = map.empty
copies_of (Some x) = x.registers

-- the copies that the node of a name holds
abbrev pub held_by : {Q : Type 0} → WorldState Q → ℕ → Copies
held_by w n = copies_of (node_at w n)

abbrev pub letter_at : {Q : Type 0} → List (LetterState Q) → ℕ → Option (LetterState Q)
letter_at ls zero = None
letter_at ls (suc i) = slice_get ls i

abbrev pub first_nodes : {Q : Type 0} → QuorumSystem Q → Q → List ℕ → List (NodeState Q)
first_nodes s founders [] = []
first_nodes s founders (n ∷ ns) = first_node s founders n ∷ first_nodes s founders ns

-- 64 nodes that hold the founders at place 0
unfoldable pub first_world : {Q : Type 0} → QuorumSystem Q → Q → WorldState Q
first_world s founders = record { nodes = first_nodes s founders (rising 64 1); letters = []; history = []; marks = [] }

-- why founders are refused
abbrev pub founding_causes : {Q : Type 0} → QuorumSystem Q → Q → List Cause
founding_causes s founders = cause EmptyMembers (nat_eq (count_of (s.members founders)) 0) ∷ []
