-- How a script is written
use Rattle.std.specs.Prelude.{◌≡◌, ◌⊎◌, ℕ, ◌<◌, ◌≤◌, ◌++◌, List, [], ◌∷◌, length, codes}
use Rattle.std.specs.List.{AllByRecursion}
use Rattle.rambo_names.specs.Names.{count_of}
use Rattle.rambo_names.specs.Signs.{conf_text, IsConf}
use Rattle.rambo_names.specs.Weights.{Weights, members_of}
use Rattle.rambo_node.specs.Steps.{Step}
use Rattle.rambo_text.specs.Words.{words_text}
use Rattle.rambo_lines.specs.StepLines.{step_line, IsStep}

-- a script, whatever its place in memory
pub record ScriptState : Type 0 where
  pub founders : Weights
  pub steps : List (Step Weights)

-- the words of the first line
abbrev pub founders_words : Weights → List (List ℕ)
founders_words founders = codes "founders" ∷ conf_text founders ∷ []

-- the first line, with no line feed
abbrev pub founders_line : Weights → List ℕ
founders_line founders = words_text (founders_words founders)

-- the lines of steps, each with its line feed
abbrev pub steps_text : List (Step Weights) → List ℕ
steps_text [] = []
steps_text (st ∷ sts) = step_line st ++ 10 ∷ steps_text sts

-- the text of a script
abbrev pub script_text : ScriptState → List ℕ
script_text s = founders_line s.founders ++ 10 ∷ steps_text s.steps

-- a line isn't too long
abbrev pub IsShort : List ℕ → Type 0
IsShort line = length line ≤ 16384

-- some founders, which are names, on a line that isn't too long
pub record AreFounders (founders : Weights) : Type 0 where
  pub names : IsConf founders
  pub some : 0 < count_of (members_of founders)
  pub short : IsShort (founders_line founders)

-- a step that has a line, which isn't too long
pub record HasLine (st : Step Weights) : Type 0 where
  pub is_step : IsStep st
  pub short : IsShort (step_line st)

-- a script whose lines are all allowed
pub record HasLines (s : ScriptState) : Type 0 where
  pub founders : AreFounders s.founders
  pub steps : AllByRecursion HasLine s.steps

-- bytes are a text, or lack the line feed at its end
abbrev pub IsTextOf : List ℕ → List ℕ → Type 0
IsTextOf bytes text = (bytes ≡ text) ⊎ (bytes ++ 10 ∷ [] ≡ text)

-- bytes are the text of a script
pub record IsScript (bytes : List ℕ) (s : ScriptState) : Type 0 where
  pub lines : HasLines s
  pub whole : IsTextOf bytes (script_text s)
