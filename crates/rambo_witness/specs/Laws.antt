-- What is true of every witness
use Rattle.std.specs.Prelude.{◌≡◌, ℕ, List, Option, None, Some}
use Rattle.rambo_history.specs.declared.event.CallId.{CallId}
use Rattle.rambo_history.specs.declared.event.Event.{Event}
use Rattle.rambo_history.specs.Proper.{IsProper, IsProperForAll}
use Rattle.rambo_atomic.specs.declared.verdict.Rule.{Rule}
use Rattle.rambo_atomic.specs.declared.verdict.Verdict.TheVariants.{No}
use Rattle.rambo_atomic.specs.Verdicts.{IsVerdict, IsVerdictForAll}
use Rattle.rambo_witness.specs.declared.witness.Witness.{Witness}
use Rattle.rambo_witness.specs.Witnesses.{Keeps, IsWitness}

-- the order is proper, for the key or for all keys
abbrev pub IsProperOf : List Event → Option (List ℕ) → List CallId → Type 0
IsProperOf h None order = IsProperForAll h order
IsProperOf h (Some key) order = IsProper h key order

-- the verdict on the order is no, by this rule
abbrev pub SaysNo : Rule → List Event → Option (List ℕ) → List CallId → Type 0
SaysNo rule h None order = IsVerdictForAll h order (No rule)
SaysNo rule h (Some key) order = IsVerdict h key order (No rule)

-- a witness shows that the order doesn't keep the rule, and so that it isn't proper
abbrev pub WitnessShows : Type 0
WitnessShows = (rule : Rule) (h : List Event) (key : Option (List ℕ)) (order : List CallId) (w : Witness)
    → IsWitness rule h key order w → (¬ (Keeps rule h key order)) × (¬ (IsProperOf h key order))

-- where the verdict is no, the order doesn't keep its rule
abbrev pub NoIsBroken : Type 0
NoIsBroken = (rule : Rule) (h : List Event) (key : Option (List ℕ)) (order : List CallId) → SaysNo rule h key order → ¬ (Keeps rule h key order)

-- there is one witness at most
abbrev pub OneWitness : Type 0
OneWitness = (rule : Rule) (h : List Event) (key : Option (List ℕ)) (order : List CallId) (w v : Witness)
    → IsWitness rule h key order w → IsWitness rule h key order v → w ≡ v
