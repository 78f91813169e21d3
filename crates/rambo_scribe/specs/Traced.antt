-- What was written of the steps of a post
use Rattle.std.specs.Prelude.{◌≡◌, ℕ, List, Option, None, Some, IfSome}
use Rattle.std.specs.Io.KnownBytes.{Appends}
use Rattle.rambo_names.specs.Weights.{Weights, weighted_majorities}
use Rattle.rambo_atomic.specs.Streams.{Begins, counted}
use Rattle.rambo_atomic.specs.declared.whole.StreamFault.{StreamFault}
use Rattle.rambo_atomic.specs.declared.whole.StreamFault.TheVariants as stream
use Rattle.rambo_node.specs.Steps.{Step}
use Rattle.rambo_run.specs.Legal.{IsLegal}
use Rattle.rambo_trace.specs.Traces.{trace_text}
use Rattle.rambo_scribe.specs.declared.fault.TraceFault.{TraceFault}
use Rattle.rambo_scribe.specs.declared.fault.TraceFault.TheVariants.{Write, Memory, Drawn}

-- what a writer has taken, where it is known, and how many of its calls failed
pub record Taken : Type 0 where
  pub bytes : Option (List ℕ)
  pub failures : ℕ

abbrev pub taken_by : {W : Type 0} → (W → Option (List ℕ)) → (W → ℕ) → W → Taken
taken_by bytes failures w = record { bytes = bytes w; failures = failures w }

-- the fault of a trace that one of a stream makes
abbrev pub fault_of : StreamFault → TraceFault
fault_of stream.Read = Write
fault_of stream.Write = Write
fault_of stream.Memory = Memory

-- how many calls of its writer have failed then: one more where the writer failed
abbrev pub failures_after : TraceFault → ℕ → ℕ
failures_after Write n = counted n
failures_after Memory n = n
failures_after Drawn n = n

-- a writer has taken the trace of these steps since, and no call of it failed; or after a fault a beginning of the trace, and
-- a call failed exactly where it is the writer's
abbrev pub HasWritten : Taken → Taken → Weights → List (Step Weights) → Option TraceFault → Type 0
HasWritten old new f steps None = Appends old.bytes new.bytes (trace_text f steps) × (new.failures ≡ old.failures)
HasWritten old new f steps (Some fault) = Begins old.bytes new.bytes (trace_text f steps) × (new.failures ≡ failures_after fault old.failures)

-- that was written of the founders of the post
abbrev pub IsTrace : Option Weights → Taken → Taken → List (Step Weights) → Option TraceFault → Type 0
IsTrace agreed before taken steps fault = (f : Weights) → agreed ≡ Some f → HasWritten before taken f steps fault

-- what the medium keeps, where that is known, is what was there before with the trace of these steps
abbrev pub KeepsTrace : Option Weights → Taken → Option (List ℕ) → List (Step Weights) → Type 0
KeepsTrace agreed before kept steps = (f : Weights) → agreed ≡ Some f → IfSome kept (λ bytes. Appends before.bytes (Some bytes) (trace_text f steps))

-- the steps that were drawn, why not all of these were written, and what the medium keeps
pub record ScribeView : Type 0 where
  pub drawn : List (Step Weights)
  pub fault : Option TraceFault
  pub kept : Option (List ℕ)

-- all steps, which are legal, and why not all were written, once the post has ended
pub record WrittenView : Type 0 where
  pub all : List (Step Weights)
  pub fault : Option TraceFault

pub record IsWritten (agreed : Option Weights) (before taken : Taken) (w : WrittenView) : Type 0 where
  pub legal : (f : Weights) → agreed ≡ Some f → IsLegal weighted_majorities f w.all
  pub written : IsTrace agreed before taken w.all w.fault
