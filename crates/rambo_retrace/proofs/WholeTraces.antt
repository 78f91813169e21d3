-- A trace that was read to its end, for the crates above
use Rattle.std.proofs.Common.{◌≡◌, ℕ, ◌+◌, List, [], ◌++◌, length, take, Option, None, Some, sym, ap, ◌∙◌, append_assoc, append-nil, length-append}
use Rattle.std.proofs.lemmas.List.{take_at}
use Rattle.std.specs.Io.KnownBytes.{IsAtEnd}
use Rattle.rambo_names.specs.Weights.{Weights}
use Rattle.rambo_atomic.specs.Unreads.{TakesIn}
use Rattle.rambo_node.specs.Steps.{Step}
use Rattle.rambo_lines.specs.Scripts.{steps_text}
use Rattle.rambo_trace.specs.Traces.{trace_text}
use Rattle.rambo_trace.proofs.Pieces.{trace-append}
use Rattle.rambo_retrace.proofs.StepByStep.{takes_more}

-- the founders were read, and then the steps
pub trace_read : (first one two : Option (List ℕ)) (h1 h2 : List ℕ) (f : Weights) (steps : List (Step Weights)) → TakesIn first one [] (trace_text f [] ++ h1) → TakesIn one two h1 (steps_text steps ++ h2)
    → TakesIn first two [] (trace_text f steps ++ h2)
trace_read first one two h1 h2 f steps head more =
    let all = takes_more first one two [] (trace_text f []) h1 (steps_text steps ++ h2) head more in
    (all.0, all.1, ap (λ t. t ++ h2) (trace-append f [] steps) ∙ append_assoc (trace_text f []) (steps_text steps) h2 ∙ all.2)

-- and that was all
pub all_read : (bytes : List ℕ) (left : Option (List ℕ)) (text : List ℕ) → TakesIn (Some bytes) left [] text → IsAtEnd left → bytes ≡ text
all_read bytes None text read end = absurd read.1
all_read bytes (Some more) text read end = read.1 ∙ ap (λ m. read.0 ++ m) end ∙ append-nil read.0 ∙ sym read.2

-- how many bytes are whole
pub whole_length : (f : Weights) (steps : List (Step Weights)) → length (trace_text f steps) ≡ length (trace_text f []) + length (steps_text steps)
whole_length f steps = ap length (trace-append f [] steps) ∙ length-append (trace_text f []) (steps_text steps)

-- those are left where the rest is cut off
pub whole_cut : (f : Weights) (steps : List (Step Weights)) (torn : List ℕ) (count : ℕ) → count ≡ length (trace_text f []) + length (steps_text steps) → take count (trace_text f steps ++ torn) ≡ trace_text f steps
whole_cut f steps torn count is = take_at (trace_text f steps) torn count (whole_length f steps ∙ sym is)
