-- Runs that go on
use Rattle.std.specs.Prelude.{◌≡◌, List}
use Rattle.rambo_names.specs.Quorums.{QuorumSystem}
use Rattle.rambo_node.specs.Steps.{Step}
use Rattle.rambo_run.specs.Worlds.{WorldState}
use Rattle.rambo_run.specs.Runs.{run}
use Rattle.rambo_run.specs.Claims.{Agrees}

-- founders, and the world that some steps made of theirs
pub record RunningOf (Q : Type 0) : Type 0 where
  pub founders : Q
  pub state : WorldState Q

-- some steps lead from the world of the founders to this one
abbrev pub IsReached : {Q : Type 0} → QuorumSystem Q → Q → WorldState Q → Type 0
IsReached {Q} s founders w = (steps : List (Step Q)) × (w ≡ run s founders steps)

-- and, whichever steps lead there, while they are taken no two nodes hold different configurations at one place
abbrev pub AgreesSoFar : {Q : Type 0} → QuorumSystem Q → Q → WorldState Q → Type 0
AgreesSoFar {Q} s founders w = IsReached s founders w × ((steps : List (Step Q)) → w ≡ run s founders steps → Agrees s founders steps)
