-- The text of a trace
use Rattle.std.specs.Prelude.{◌≡◌, ℕ, List, ◌++◌, Option}
use Rattle.std.specs.Io.KnownBytes.{Appends}
use Rattle.rambo_names.specs.Weights.{Weights}
use Rattle.rambo_node.specs.Steps.{Step}
use Rattle.rambo_text.specs.declared.version.Version.TheVariants.{Two}
use Rattle.rambo_lines.specs.Versions.{text_in}

-- it is the script of the founders and the steps, in version 2
abbrev pub trace_text : Weights → List (Step Weights) → List ℕ
trace_text founders steps = text_in Two (record { founders = founders; steps = steps })

-- a prefix of what waits was written, and the rest still waits
abbrev pub Moves : Option (List ℕ) → Option (List ℕ) → List ℕ → List ℕ → Type 0
Moves old new waits left = (front : List ℕ) × (waits ≡ front ++ left) × Appends old new front
