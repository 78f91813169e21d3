-- How writing a trace ends
use Rattle.std.specs.Prelude.{◌≡◌, ◌⊎◌, ℕ, List, [], None, Some, length}
use Rattle.rambo_names.specs.Weights.{Weights}
use Rattle.rambo_node.specs.Steps.{Step}
use Rattle.rambo_text.specs.declared.fault.ReplayFault.TheVariants.{Write, Memory}
use Rattle.rambo_atomic.specs.Streams.{Begins}
use Rattle.rambo_telling.specs.Telling.{Stream, Breaks, IsFine, Takes, Tells, fault_line}
use Rattle.rambo_trace.specs.Traces.{trace_text}
use Rattle.rambo_serving.specs.declared.ending.Ending.{Ending}

-- no trace was written whole, and this line reported why
pub record Fails (line : List ℕ) (e : Ending) (told : Stream) : Type 0 where
  pub status_is : e.status ≡ 1
  pub no_trace : e.trace ≡ None
  pub line_told : Tells line told

-- the trace of the steps was written whole, and nothing more was reported
pub record IsWritten (founders : Weights) (steps : List (Step Weights)) (e : Ending) (write told : Stream) : Type 0 where
  pub status_is : e.status ≡ 0
  pub trace_is : e.trace ≡ Some (length steps)
  pub whole : Takes (trace_text founders steps) write
  pub quiet : Takes [] told

-- a prefix of it, since the writer failed or memory ran out
abbrev pub IsBroken : Weights → List (Step Weights) → Ending → Stream → Stream → Type 0
IsBroken founders steps e write told =
    (Breaks (trace_text founders steps) write × Fails (fault_line Write) e told)
    ⊎ (IsFine write × Begins write.old write.new (trace_text founders steps) × Fails (fault_line Memory) e told)

-- how writing the trace of steps ends
abbrev pub WritesTo : Weights → List (Step Weights) → Ending → Stream → Stream → Type 0
WritesTo founders steps e write told = IsWritten founders steps e write told ⊎ IsBroken founders steps e write told
