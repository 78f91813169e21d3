-- Whole runs, and what they give
use Rattle.std.specs.Prelude.{ℕ, if◌then◌else◌, List, [], ◌∷◌, Option, None, Some, Result, Ok, Err}
use Rattle.rambo_names.specs.declared.refusal.Refusal.{Refusal}
use Rattle.rambo_names.specs.Quorums.{QuorumSystem}
use Rattle.rambo_history.specs.declared.event.CallId.{CallId}
use Rattle.rambo_history.specs.declared.event.Event.{Event}
use Rattle.rambo_joiner.specs.Statuses.{is_idle}
use Rattle.rambo_node.specs.declared.effect.Effect.{Effect}
use Rattle.rambo_node.specs.Nodes.{NodeState}
use Rattle.rambo_node.specs.Steps.{Step}
use Rattle.rambo_sequence.specs.Sequences.{SequenceOf, sequences_of}
use Rattle.rambo_sequence.specs.StoreOrders.{order_of}
use Rattle.rambo_run.specs.Worlds.{WorldState, first_world}
use Rattle.rambo_run.specs.Steps.{refusal, turn}

-- a refused step changes nothing
abbrev pub unless_refused : {Q : Type 0} → Option Refusal → WorldState Q → WorldState Q → WorldState Q
unless_refused None w next = next
unless_refused (Some r) w next = w

unfoldable pub after : {Q : Type 0} → QuorumSystem Q → WorldState Q → Step Q → WorldState Q
after s w st = unless_refused (refusal s w st) w (turn w st).world

unfoldable pub run_from : {Q : Type 0} → QuorumSystem Q → WorldState Q → List (Step Q) → WorldState Q
run_from s w [] = w
run_from s w (st ∷ sts) = run_from s (after s w st) sts

-- the world after all steps of a list
unfoldable pub run : {Q : Type 0} → QuorumSystem Q → Q → List (Step Q) → WorldState Q
run s founders sts = run_from s (first_world s founders) sts

-- what a step did, or why it was refused
abbrev pub result_of : {Q : Type 0} → Option Refusal → WorldState Q → Step Q → Result (Effect Q) Refusal
result_of None w st = Ok (turn w st).effect
result_of (Some r) w st = Err r

unfoldable pub results_from : {Q : Type 0} → QuorumSystem Q → WorldState Q → List (Step Q) → List (Result (Effect Q) Refusal)
results_from s w [] = []
results_from s w (st ∷ sts) = result_of (refusal s w st) w st ∷ results_from s (after s w st) sts

-- what an outcome says of the map of a node: its lowest place that isn't removed, and the configurations from there on
pub record MapOf (Q : Type 0) : Type 0 where
  pub name : ℕ
  pub floor : ℕ
  pub active : List Q

-- the maps of the nodes that aren't idle
abbrev pub maps_of : {Q : Type 0} → List (NodeState Q) → List (MapOf Q)
maps_of [] = []
maps_of (x ∷ xs) = if is_idle x.status then maps_of xs else record { name = x.name; floor = x.map.floor; active = x.map.configs } ∷ maps_of xs

-- the given sequences of all keys
abbrev pub given_sequences : {Q : Type 0} → WorldState Q → List SequenceOf
given_sequences w = sequences_of w.history w.marks

-- the one order of the calls of all keys
abbrev pub given_order : {Q : Type 0} → WorldState Q → List CallId
given_order w = order_of w.history (given_sequences w)

-- what a run gives. It has the effect or refusal of each step, the history, and the sequence of each key that has one.
-- It also has the one order of the calls of all keys, and the map of each node that isn't idle
pub record OutcomeState (Q : Type 0) : Type 0 where
  pub effects : List (Result (Effect Q) Refusal)
  pub history : List Event
  pub sequences : List SequenceOf
  pub order : List CallId
  pub maps : List (MapOf Q)

abbrev pub outcome_at : {Q : Type 0} → List (Result (Effect Q) Refusal) → WorldState Q → OutcomeState Q
outcome_at effects w = record { effects = effects; history = w.history; sequences = given_sequences w; order = given_order w; maps = maps_of w.nodes }

unfoldable pub outcome_of : {Q : Type 0} → QuorumSystem Q → Q → List (Step Q) → OutcomeState Q
outcome_of s founders sts = outcome_at (results_from s (first_world s founders) sts) (run s founders sts)
