-- What a node does first of what it may do by itself, by its own judgement
use Rattle.std.specs.Prelude.{ℕ, Bool, is_none, find, List, [], ◌∷◌, ◌++◌, map, Option, option_map}
use Rattle.rambo_names.specs.Quorums.{QuorumSystem}
use Rattle.rambo_calls.specs.Calls.{CallState}
use Rattle.rambo_node.specs.Acts.{Act}
use Rattle.rambo_node.specs.Changes.{refusal_of}
use Rattle.rambo_node.specs.Nodes.{NodeState}
use Rattle.rambo_node.specs.Acts as act
use Rattle.rambo_node.specs.declared.prepared.Quiet.TheVariants as quiet
use Rattle.rambo_node.specs.Steps.{Step}
use Rattle.rambo_node.specs.declared.step.StepOf.TheVariants as step
use Rattle.rambo_mail.specs.declared.mail.Mail.{Mail}

-- a step that a node may do by itself, and the act that it means
pub record Candidate (Q : Type 0) : Type 0 where
  pub step : Step Q
  pub act : Act Q

abbrev pub delivery : {Q : Type 0} → Mail Q → Candidate Q
delivery m = record { step = step.Deliver m.number; act = act.Hear m.letter }

abbrev pub advance : {Q : Type 0} → ℕ → CallState Q → Candidate Q
advance name c = record { step = step.Advance (record { name = name; number = c.number }); act = act.Advance (record { name = name; number = c.number }) }

abbrev pub of_configurations : {Q : Type 0} → ℕ → List (Candidate Q)
of_configurations name =
    record { step = step.AdvanceCollect name; act = act.Quietly quiet.AdvanceCollect } ∷ record { step = step.AdvanceRecon name; act = act.Quietly quiet.AdvanceRecon } ∷ []

-- of a node that has this tray: each letter comes, the oldest first; each open call advances, the oldest first; its
-- collection advances; its attempt advances
abbrev pub candidates : {Q : Type 0} → NodeState Q → List (Mail Q) → List (Candidate Q)
candidates x tray = map delivery tray ++ (map (advance x.name) x.calls ++ of_configurations x.name)

abbrev pub is_accepted : {Q : Type 0} → QuorumSystem Q → NodeState Q → Candidate Q → Bool
is_accepted s x c = is_none (refusal_of s x c.act)

-- the step of the first of these that a node doesn't refuse
abbrev pub first_of : {Q : Type 0} → QuorumSystem Q → NodeState Q → List (Candidate Q) → Option (Step Q)
first_of {Q} s x cs = option_map (λ (c : Candidate Q). c.step) (find (is_accepted s x) cs)
