-- What each node did in a run: the list of its acts, which makes it again
use Rattle.std.specs.Prelude.{◌≡◌, ℕ, if◌then◌else◌, nat_eq, List, [], ◌∷◌, Option, None, Some}
use Rattle.rambo_names.specs.declared.refusal.Refusal.{Refusal}
use Rattle.rambo_names.specs.Names.{IsName}
use Rattle.rambo_names.specs.Quorums.{QuorumSystem}
use Rattle.rambo_node.specs.Acts.{Act, Meant}
use Rattle.rambo_node.specs.Changes.{replayed}
use Rattle.rambo_node.specs.Nodes.{first_node}
use Rattle.rambo_node.specs.Steps.{Step}
use Rattle.rambo_run.specs.Worlds.{WorldState, first_world, node_at}
use Rattle.rambo_run.specs.Steps.{meant, refusal}
use Rattle.rambo_run.specs.Runs.{after, run}

-- the act goes into the journal of its own node
abbrev pub entered : {Q : Type 0} → ℕ → Option (Meant Q) → List (Act Q) → List (Act Q)
entered n None cs = cs
entered n (Some m) cs = if nat_eq m.name n then m.act ∷ cs else cs

-- unless the step was refused
abbrev pub entered_unless : {Q : Type 0} → Option Refusal → ℕ → Option (Meant Q) → List (Act Q) → List (Act Q)
entered_unless None n m cs = entered n m cs
entered_unless (Some r) n m cs = cs

-- the acts of node n in these steps, the oldest first
unfoldable pub journal_from : {Q : Type 0} → QuorumSystem Q → WorldState Q → ℕ → List (Step Q) → List (Act Q)
journal_from s w n [] = []
journal_from s w n (st ∷ sts) = entered_unless (refusal s w st) n (meant w st) (journal_from s (after s w st) n sts)

unfoldable pub journal : {Q : Type 0} → QuorumSystem Q → Q → ℕ → List (Step Q) → List (Act Q)
journal s founders n sts = journal_from s (first_world s founders) n sts

-- each node of a run is the replay of its own acts
abbrev pub NodesAreReplayed : {Q : Type 0} → QuorumSystem Q → Type 0
NodesAreReplayed {Q} s =
    (founders : Q) (steps : List (Step Q)) (n : ℕ) → IsName n
    → node_at (run s founders steps) n ≡ Some (replayed (first_node s founders n) (journal s founders n steps))
