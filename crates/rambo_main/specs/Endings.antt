-- How a server ends, and how that is reported
use Rattle.std.specs.Prelude.{◌≡◌, ◌⊎◌, ℕ, List, [], Option, None, Some}
use Rattle.rambo_text.specs.declared.fault.ReplayFault.TheVariants.{Memory, Write}
use Rattle.rambo_telling.specs.Telling.{Stream, Takes, fault_line, socket_line}
use Rattle.rambo_serving.specs.declared.ending.Ending.{Ending}
use Rattle.rambo_serving.specs.Endings.{Fails}
use Rattle.rambo_scribe.specs.declared.fault.TraceFault.{TraceFault}
use Rattle.rambo_scribe.specs.declared.fault.TraceFault.TheVariants as trace
use Rattle.rambo_cluster.specs.declared.fault.ServeFault.{ServeFault}
use Rattle.rambo_cluster.specs.declared.fault.ServeFault.TheVariants as server

-- the line that reports why nothing was served
abbrev pub server_line : ServeFault → List ℕ
server_line server.Socket = socket_line
server_line server.Memory = fault_line Memory

-- the line that reports why a trace isn't whole
abbrev pub trace_line : TraceFault → List ℕ
trace_line trace.Write = fault_line Write
trace_line trace.Drawn = fault_line Write
trace_line trace.Memory = fault_line Memory

-- how a server ends that wrote its steps as they were done: nothing is reported, or why the trace isn't whole
abbrev pub Ends : Option TraceFault → Ending → Stream → Type 0
Ends None e told = (e.status ≡ 0) × (e.trace ≡ None) × Takes [] told
Ends (Some fault) e told = Fails (trace_line fault) e told

-- a port is the one that is asked for, or any where none is
abbrev pub ListensOn : ℕ → ℕ → Type 0
ListensOn asked port = (asked ≡ 0) ⊎ (port ≡ asked)
