-- How serving ends where the trace stands in a file
use Rattle.std.specs.Prelude.{◌≡◌, ◌⊎◌, ◌∷◌, ◌++◌, ℕ, Bool, true, false, List, [], Option, None, Some, codes, if◌then◌else◌}
use Rattle.rambo_names.specs.Refusals.{number_of}
use Rattle.rambo_names.specs.Weights.{Weights}
use Rattle.rambo_text.specs.declared.fault.ReplayFault.TheVariants.{Memory, Read, Script, Write}
use Rattle.rambo_archive.specs.declared.opening.OpenFault.{OpenFault}
use Rattle.rambo_archive.specs.OpenFaults.{words_of}
use Rattle.rambo_retrace.specs.declared.fault.RetraceFault.{RetraceFault}
use Rattle.rambo_retrace.specs.declared.fault.RetraceFault.TheVariants as retrace
use Rattle.rambo_telling.specs.Telling.{Stream, Tells, fault_line, listening_line, refused_line, stream}
use Rattle.rambo_command_line.specs.declared.serving.Serving.{Serving}
use Rattle.rambo_serving.specs.declared.ending.Ending.{Ending}
use Rattle.rambo_serving.specs.Endings.{Fails}
use Rattle.rambo_scribe.specs.declared.fault.TraceFault.{TraceFault}
use Rattle.rambo_scribe.specs.Traced.{Taken}
use Rattle.rambo_cluster.specs.declared.fault.ServeFault.{ServeFault}
use Rattle.rambo_lasting.specs.declared.fault.ResumeFault.{ResumeFault}
use Rattle.rambo_lasting.specs.declared.fault.ResumeFault.TheVariants as resume
use Rattle.rambo_lasting.specs.Resumings.{Announced, Begins, Resumes, Unresumed}
use Rattle.rambo_main.specs.Endings.{Ends, ListensOn, server_line}

-- the line that reports why a trace isn't taken, and the status
abbrev pub retrace_line : RetraceFault → List ℕ
retrace_line retrace.Read = fault_line Read
retrace_line retrace.Memory = fault_line Memory
retrace_line (retrace.Script f) = fault_line (Script f)
retrace_line (retrace.Refused line r) = refused_line (number_of r) line

abbrev pub retrace_status : RetraceFault → ℕ
retrace_status retrace.Read = 1
retrace_status retrace.Memory = 1
retrace_status (retrace.Script f) = 2
retrace_status (retrace.Refused line r) = 2

-- the line that reports founders that aren't those of the trace
abbrev pub other_founders : List ℕ
other_founders = codes "bad options: --founders aren't those of the trace" ++ 10 ∷ []

-- the line that reports why a server doesn't go on, and the status
abbrev pub resume_line : ResumeFault → List ℕ
resume_line (resume.Trace f) = retrace_line f
resume_line resume.Founders = other_founders
resume_line resume.Uncut = fault_line Write
resume_line (resume.Unserved f) = server_line f

abbrev pub resume_status : ResumeFault → ℕ
resume_status (resume.Trace f) = retrace_status f
resume_status resume.Founders = 2
resume_status resume.Uncut = 1
resume_status (resume.Unserved f) = 1

-- a server doesn't go on, and why is reported
pub record IsUnresumed (f : ResumeFault) (e : Ending) (told : Stream) : Type 0 where
  pub status_is : e.status ≡ resume_status f
  pub no_trace : e.trace ≡ None
  pub line_told : Tells (resume_line f) told

-- a server goes on from the trace in a file, or begins one there
abbrev pub Serves : {E : Type 0} → (E → Option (List ℕ)) → (E → ℕ) → Bool → Taken → Taken → Weights → Option Weights → ℕ → Option TraceFault → E → E → Type 0
Serves taken failures true before after founders asked port fault old new = Resumes taken failures before after founders asked port fault old new
Serves taken failures false before after founders asked port fault old new =
    Begins before after founders fault × Tells (listening_line port) (stream taken failures old new)

-- how serving ends whose trace stands in a file that was opened: it doesn't listen; or clients were served; or it doesn't go on
abbrev pub KeepsTo : {E : Type 0} → (E → Option (List ℕ)) → (E → ℕ) → Serving → Weights → Ending → Taken → Taken → E → E → Type 0
KeepsTo {E} taken failures s founders e before after old new =
    ((f : ServeFault) × (after ≡ before) × Fails (server_line f) e (stream taken failures old new))
    ⊎ ((fault : Option TraceFault) × (port : ℕ) × ListensOn s.port port × (behind : E)
    × Serves taken failures s.resumed before after founders (if s.founded then Some founders else None) port fault old behind
    × Ends fault e (stream taken failures behind new))
    ⊎ ((f : ResumeFault) × (port : ℕ) × (behind : E) × Unresumed s.lose (if s.founded then Some founders else None) before after f
    × Announced taken failures before.bytes port old behind × IsUnresumed f e (stream taken failures behind new))

-- or the file isn't opened
abbrev pub LastsTo : {E : Type 0} → (E → Option (List ℕ)) → (E → ℕ) → Serving → Weights → Ending → E → E → Type 0
LastsTo taken failures s founders e old new =
    ((f : OpenFault) × Fails (words_of f ++ 10 ∷ []) e (stream taken failures old new))
    ⊎ ((before : Taken) × (after : Taken) × KeepsTo taken failures s founders e before after old new)
