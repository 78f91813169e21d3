-- Steps at the front of a text
use Rattle.std.specs.Prelude.{ℕ, List}
use Rattle.rambo_names.specs.Weights.{Weights}
use Rattle.rambo_node.specs.Steps.{Step}
use Rattle.rambo_node.specs.declared.step.StepOf.TheVariants as step
use Rattle.rambo_text.specs.Words.{IsFirstLine}
use Rattle.rambo_lines.specs.declared.front.Frequent.{Frequent}
use Rattle.rambo_lines.specs.declared.front.Frequent.TheVariants as frequent
use Rattle.rambo_lines.specs.StepLines.{step_line}
use Rattle.rambo_lines.specs.Scripts.{HasLine}

-- the first line of a text is that of a step, and the rest is that of the lines after it
pub record BeginsWithStep (text : List ℕ) (st : Step Weights) (rest : List ℕ) : Type 0 where
  pub has_line : HasLine st
  pub is_first : IsFirstLine text (step_line st) rest

-- the same step
abbrev pub step_of : Frequent → Step Weights
step_of (frequent.Send n to) = step.Send n to
step_of (frequent.Deliver l) = step.Deliver l
step_of (frequent.Advance c) = step.Advance c
