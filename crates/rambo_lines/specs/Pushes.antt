-- Reading a script step by step
use Rattle.std.specs.Prelude.{◌≡◌, ◌⊎◌, ℕ, List, [], ◌∷◌, ◌++◌}
use Rattle.rambo_names.specs.Weights.{Weights}
use Rattle.rambo_node.specs.Steps.{Step}
use Rattle.rambo_lines.specs.StepLines.{step_line}
use Rattle.rambo_lines.specs.Scripts.{HasLine}
use Rattle.rambo_lines.specs.Faults.{IsScriptFault, RanOut, TellsBytesOrStep}
use Rattle.rambo_text.specs.declared.fault.ScriptFault.{ScriptFault}

-- the step of a line came to the end of a list
pub record PushesStep (old new : List (Step Weights)) (line : List ℕ) : Type 0 where
  pub step : Step Weights
  pub new_is : new ≡ old ++ step ∷ []
  pub has_line : HasLine step
  pub line_is : line ≡ step_line step

-- bytes are no script, or memory ran out while a line that has bytes or a step was read
abbrev pub IsNoScript : List ℕ → ScriptFault → Type 0
IsNoScript bytes f = IsScriptFault bytes f ⊎ RanOut TellsBytesOrStep bytes f
