-- What a file held that was read to its end, and what is left of it
use Rattle.std.proofs.Common.{◌≡◌, ℕ, ◌+◌, List, [], ◌++◌, length, take, Option, None, Some, IfSome, option_map, refl, sym, ap, ◌∙◌, subst}
use Rattle.std.specs.Io.KnownBytes.{Appends, IsAtEnd}
use Rattle.rambo_names.specs.Weights.{Weights}
use Rattle.rambo_atomic.specs.Unreads.{TakesIn}
use Rattle.rambo_node.specs.Steps.{Step}
use Rattle.rambo_lines.specs.Scripts.{steps_text}
use Rattle.rambo_trace.specs.Traces.{trace_text}
use Rattle.rambo_retrace.proofs.WholeTraces.{all_read, trace_read, whole_cut}

-- the founders were read, then the steps, and that was all
pub held : (first one two : Option (List ℕ)) (h1 torn : List ℕ) (f : Weights) (steps : List (Step Weights)) → TakesIn first one [] (trace_text f [] ++ h1) → TakesIn one two h1 (steps_text steps ++ torn)
    → IsAtEnd two → IfSome first (λ bytes. bytes ≡ trace_text f steps ++ torn)
held None one two h1 torn f steps head more end = tt
held (Some bytes) one two h1 torn f steps head more end = all_read bytes two (trace_text f steps ++ torn) (trace_read (Some bytes) one two h1 torn f steps head more) end

-- what is torn was cut off
pub cut : (old new : Option (List ℕ)) (f : Weights) (steps : List (Step Weights)) (torn : List ℕ) (count : ℕ) → count ≡ length (trace_text f []) + length (steps_text steps)
    → new ≡ option_map (take count) old → IfSome old (λ bytes. bytes ≡ trace_text f steps ++ torn) → new ≡ option_map (λ bytes. trace_text f steps) old
cut None new f steps torn count is left held = left
cut (Some bytes) new f steps torn count is left held = left ∙ ap Some (ap (take count) held ∙ whole_cut f steps torn count is)

-- a file that was empty has taken the whole trace
pub appended : (old new : Option (List ℕ)) (text : List ℕ) → new ≡ option_map (λ bytes. text) old → Appends (option_map (λ bytes. []) old) new text
appended None new text is = tt
appended (Some bytes) new text is = subst (λ o. Appends (Some []) o text) (sym is) refl
