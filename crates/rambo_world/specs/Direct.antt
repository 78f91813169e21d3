-- Runs whose letters come as they are sent, and of which nothing is kept but the nodes
use Rattle.std.specs.Prelude.{◌≡◌, ℕ, List, [], ◌∷◌, Option, None, Some, Result, Ok, Err}
use Rattle.rambo_names.specs.declared.refusal.Refusal.{Refusal}
use Rattle.rambo_names.specs.Quorums.{QuorumSystem}
use Rattle.rambo_node.specs.Steps.{Step}
use Rattle.rambo_node.specs.declared.step.StepOf.TheVariants as step
use Rattle.rambo_run.specs.Worlds.{WorldState}
use Rattle.rambo_run.specs.Steps.{refusal}
use Rattle.rambo_run.specs.Runs.{after, run, run_from}

-- a world with its nodes alone
abbrev pub bare : {Q : Type 0} → WorldState Q → WorldState Q
bare w = record w { letters = []; history = []; marks = [] }

-- some steps lead from the world of the founders to one that has these nodes
abbrev pub IsReachedBare : {Q : Type 0} → QuorumSystem Q → Q → WorldState Q → Type 0
IsReachedBare {Q} s founders w = (steps : List (Step Q)) × (w ≡ bare (run s founders steps))

-- where there are no letters, one is sent, and comes
abbrev pub passing : {Q : Type 0} → ℕ → ℕ → List (Step Q)
passing from to = step.Send from to ∷ step.Deliver 1 ∷ []

-- the world when it has come, with its nodes alone
abbrev pub passed : {Q : Type 0} → QuorumSystem Q → WorldState Q → ℕ → ℕ → WorldState Q
passed s w from to = bare (run_from s w (passing from to))

-- the first of two refusals
abbrev pub first_of : Option Refusal → Option Refusal → Option Refusal
first_of None o = o
first_of (Some r) o = Some r

-- why a letter doesn't pass from one node to another: it isn't sent, or it isn't heard
abbrev pub pass_refusal : {Q : Type 0} → QuorumSystem Q → WorldState Q → ℕ → ℕ → Option Refusal
pass_refusal s w from to = first_of (refusal s w (step.Send from to)) (refusal s (after s w (step.Send from to)) (step.Deliver 1))

-- the refusal that was answered, if one was
abbrev pub told_refusal : {A : Type 0} → Result A Refusal → Option Refusal
told_refusal (Ok x) = None
told_refusal (Err r) = Some r
