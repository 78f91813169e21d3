-- The steps that a client's nodes take
use mathlib.Core.List.{IsPrefix}
use Rattle.std.specs.Prelude.{◌≡◌, ℕ, ◌+◌, nat_eq, not, List, [], ◌∷◌, ◌++◌, fold, Result, Ok, Err}
use Rattle.std.specs.List.{filter}
use Rattle.rambo_names.specs.Names.{names}
use Rattle.rambo_names.specs.Weights.{Weights, members_of, weighted_majorities}
use Rattle.rambo_history.specs.declared.operation.Op.{Op}
use Rattle.rambo_history.specs.declared.event.CallId.{CallId}
use Rattle.rambo_history.specs.declared.event.Event.{Event}
use Rattle.rambo_node.specs.Steps.{Step}
use Rattle.rambo_node.specs.declared.step.StepOf.TheVariants as step
use Rattle.rambo_run.specs.Runs.{run}
use Rattle.rambo_commands.specs.declared.request.Request.{Request}
use Rattle.rambo_commands.specs.declared.request.Request.TheVariants.{Says, Does}
use Rattle.rambo_client.specs.Calls.{id_at, IsHistory, BeginsHistory}

-- the founders of some nodes, the steps that these took, and how many letters were sent
pub record Course : Type 0 where
  pub founders : Weights
  pub steps : List (Step Weights)
  pub sent : ℕ

-- no step yet
abbrev pub no_steps : Weights → Course
no_steps founders = record { founders = founders; steps = []; sent = 0 }

-- the calls and answers of their run
abbrev pub history_of : Course → List Event
history_of c = (run weighted_majorities c.founders c.steps).history

-- one more step that sends no letter
abbrev pub stepped : Course → Step Weights → Course
stepped c st = record c { steps = c.steps ++ st ∷ [] }

-- a letter goes from one node to another, and comes there; letters are numbered from 1
abbrev pub lettered : Course → ℕ → ℕ → Course
lettered c from to = record { founders = c.founders; steps = c.steps ++ step.Send from to ∷ step.Deliver (c.sent + 1) ∷ []; sent = c.sent + 1 }

-- one goes to a peer, and one comes back
abbrev pub exchanged : ℕ → Course → ℕ → Course
exchanged name c peer = lettered (lettered c name peer) peer name

-- the other founders, in ascending order
abbrev pub others : ℕ → List ℕ → List ℕ
others name ns = filter (λ n. not (nat_eq n name)) ns

-- a phase of a call: letters with each of these, one after another, and then the call advances
abbrev pub phase : Course → List ℕ → CallId → Course
phase c peers id = stepped (fold (exchanged id.name) c peers) (step.Advance id)

-- an operation: its call, and its two phases
abbrev pub operated : Course → List ℕ → CallId → Op → Course
operated c peers id op = phase (phase (stepped c (step.Call id.name op)) peers id) peers id

-- what requests ask for, one after another, of a node and its peers
abbrev pub Asks : ℕ → List ℕ → Course → List Request → Course → Type 0
Asks name peers c [] d = d ≡ c
Asks name peers c (Says r ∷ qs) d = Asks name peers c qs d
Asks name peers c (Does o ∷ qs) d = (number : ℕ) × Asks name peers (operated c peers (id_at name number) o) qs d

-- the steps of one course are a prefix of those of another
abbrev pub IsBeginning : Course → Course → Type 0
IsBeginning c d = (c.founders ≡ d.founders) × IsPrefix c.steps d.steps

-- some steps that the nodes of these founders took are those that the requests ask for, and the history of their run is
-- that of the requests
abbrev pub HasDone : ℕ → Weights → List Request → (Course → Type 0) → Type 0
HasDone name founders qs took =
    (c : Course) × took c × IsHistory name qs (history_of c) × Asks name (others name (names (members_of founders))) (no_steps founders) qs c

-- a prefix of both
abbrev pub HasBegun : ℕ → Weights → List Request → (Course → Type 0) → Type 0
HasBegun name founders qs took =
    (c : Course) × took c × BeginsHistory name qs (history_of c)
    × ((d : Course) × Asks name (others name (names (members_of founders))) (no_steps founders) qs d × IsBeginning c d)

-- at Ok the nodes took these steps, and the history of their run is this one with what is added; else they took a prefix of
-- the steps, and nothing is added
abbrev pub Ends : {A E : Type 0} → Result A E → (Course → Type 0) → Course → List Event → (A → List Event) → Type 0
Ends (Ok x) took d history added = took d × (history_of d ≡ history ++ added x)
Ends (Err e) took d history added = (c : Course) × took c × IsBeginning c d × (history_of c ≡ history)
