-- Whose step each step is, by the steps before it alone
use Rattle.std.specs.Prelude.{ℕ, zero, suc, List, [], ◌∷◌, ◌++◌, Option, None, Some, slice_get}
use Rattle.rambo_node.specs.Steps.{Step, named_by}
use Rattle.rambo_node.specs.declared.step.StepOf.TheVariants as step

-- the addressee of the letter that a step sends, if it sends one
abbrev pub sent_by : {Q : Type 0} → Step Q → List ℕ
sent_by (step.Send n to) = to ∷ []
sent_by _ = []

-- the addressees of all letters that these steps sent
abbrev pub sent : {Q : Type 0} → List (Step Q) → List ℕ
sent [] = []
sent (st ∷ sts) = sent_by st ++ sent sts

abbrev pub or_nobody : Option ℕ → ℕ
or_nobody None = 0
or_nobody (Some n) = n

-- the addressee of the letter of a number, 0 if there is none
abbrev pub addressee_at : List ℕ → ℕ → ℕ
addressee_at ns zero = 0
addressee_at ns (suc i) = or_nobody (slice_get ns i)

-- whose step a step is, after these, of which none was refused: 0 for the delivery of a letter that was never sent
abbrev pub actor : {Q : Type 0} → List (Step Q) → Step Q → ℕ
actor log (step.Deliver l) = addressee_at (sent log) l
actor log st = or_nobody (named_by st)
