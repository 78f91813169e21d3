-- The step that the first of some lines tells
use Rattle.std.proofs.Common.{◌≡◌, ℕ, List, [], ◌∷◌, ◌++◌, refl, sym, subst}
use Rattle.rambo_names.specs.Weights.{Weights}
use Rattle.rambo_names.specs.declared.refusal.Refusal.{Refusal}
use Rattle.rambo_node.specs.Steps.{Step}
use Rattle.rambo_lines.specs.Fronts.{BeginsWithStep}
use Rattle.rambo_lines.specs.Scripts.{HasLine}
use Rattle.rambo_lines.specs.StepLines.{step_line}
use Rattle.rambo_retrace.specs.declared.fault.RetraceFault.{RetraceFault}
use Rattle.rambo_retrace.specs.declared.fault.RetraceFault.TheVariants.{Refused}
use Rattle.rambo_retrace.specs.Retraces.{IsWholeLine, IsUsed, IsFaultAt, StopsAtFirst, TakesFirst}
use Rattle.rambo_retrace.proofs.WholeLines.{same_whole}

-- the first line has its line feed, and so many bytes with it
abbrev pub IsFed : List ℕ → List ℕ → ℕ → Type 0
IsFed lines rest used = (line : List ℕ) × IsWholeLine lines line rest × IsUsed line used

-- a taker refused the step of a line of this number
abbrev pub IsRefused : (Step Weights → Refusal → Type 0) → ℕ → Step Weights → RetraceFault → Type 0
IsRefused Refuses number st f = (r : Refusal) × (f ≡ Refused number r) × Refuses st r

-- the line of a step was read whole
pub takes_line : (lines line rest : List ℕ) (st : Step Weights) (used : ℕ) (old new : List (Step Weights)) → HasLine st → line ≡ step_line st → IsWholeLine lines line rest → IsUsed line used
    → new ≡ old ++ st ∷ [] → TakesFirst lines used old new
takes_line lines line rest st used old new has is whole many taken = record {
  step = st;
  has_line = has;
  rest = rest;
  is_first = subst (λ l. IsWholeLine lines l rest) is whole;
  used_is = subst (λ l. IsUsed l used) is many;
  taken = taken;
}

pub refuses_line : (Refuses : Step Weights → Refusal → Type 0) (number : ℕ) (lines line rest : List ℕ) (st : Step Weights) (f : RetraceFault) → HasLine st → line ≡ step_line st → IsWholeLine lines line rest
    → IsRefused Refuses number st f → StopsAtFirst Refuses number lines f
refuses_line Refuses number lines line rest st f has is whole told =
    record { line = line; rest = rest; is_first = whole; fault = subst (IsFaultAt Refuses number line) (sym told.1) (refl, (st, has, is, told.2)) }

-- its step was read with no search for its end
pub takes_front : (lines rest : List ℕ) (st : Step Weights) (used : ℕ) (old new : List (Step Weights)) → BeginsWithStep lines st rest → IsFed lines rest used → new ≡ old ++ st ∷ []
    → TakesFirst lines used old new
takes_front lines rest st used old new begins fed taken =
    let whole = same_whole lines (step_line st) fed.0 rest rest used begins.is_first fed.1 fed.2 in
    takes_line lines (step_line st) rest st used old new begins.has_line refl whole.0 whole.1 taken

pub refuses_front : (Refuses : Step Weights → Refusal → Type 0) (number : ℕ) (lines rest : List ℕ) (st : Step Weights) (used : ℕ) (f : RetraceFault) → BeginsWithStep lines st rest → IsFed lines rest used
    → IsRefused Refuses number st f → StopsAtFirst Refuses number lines f
refuses_front Refuses number lines rest st used f begins fed told =
    let whole = same_whole lines (step_line st) fed.0 rest rest used begins.is_first fed.1 fed.2 in
    refuses_line Refuses number lines (step_line st) rest st f begins.has_line refl whole.0 told
