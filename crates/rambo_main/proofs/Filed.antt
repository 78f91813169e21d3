-- How serving ends whose trace stands in a file
use Rattle.std.proofs.Common.{◌≡◌, ℕ, List, [], true, false, Option, None, Some, if◌then◌else◌, inl, inr, sym, ap, subst}
use Rattle.std.specs.Prelude.{IfSome}
use Rattle.rambo_names.specs.Weights.{Weights, weighted_majorities}
use Rattle.rambo_node.specs.Steps.{Step}
use Rattle.rambo_run.specs.Legal.{IsLegal}
use Rattle.rambo_telling.specs.Telling.{Tells, listening_line, stream}
use Rattle.rambo_command_line.specs.declared.serving.Serving.{Serving}
use Rattle.rambo_serving.specs.declared.ending.Ending.{Ending}
use Rattle.rambo_serving.specs.Endings.{Fails}
use Rattle.rambo_scribe.specs.declared.fault.TraceFault.{TraceFault}
use Rattle.rambo_scribe.specs.Traced.{HasWritten, Taken}
use Rattle.rambo_cluster.specs.declared.fault.ServeFault.{ServeFault}
use Rattle.rambo_lasting.specs.declared.fault.ResumeFault.{ResumeFault}
use Rattle.rambo_lasting.specs.declared.fault.ResumeFault.TheVariants.{Unserved}
use Rattle.rambo_lasting.specs.Resumings.{Announced, Begins, Resumes, Unresumed}
use Rattle.rambo_main.specs.Endings.{Ends, ListensOn, server_line}
use Rattle.rambo_main.specs.Files.{IsUnresumed, KeepsTo, Serves}

-- a trace was begun
pub begun : {E : Type 0} (taken : E → Option (List ℕ)) (failures : E → ℕ) (s : Serving) (founders : Weights) (e : Ending) (before after : Taken) (old behind new : E) (fault : Option TraceFault) (port : ℕ)
    → s.resumed ≡ false → ListensOn s.port port → IfSome before.bytes (λ bytes. bytes ≡ []) → ((steps : List (Step Weights)) × IsLegal weighted_majorities founders steps × HasWritten before after founders steps fault)
    → Tells (listening_line port) (stream taken failures old behind) → Ends fault e (stream taken failures behind new) → KeepsTo taken failures s founders e before after old new
begun taken failures s founders e before after old behind new fault port anew listens empty served told ends =
    let begins : Begins before after founders fault = record { all = served.0; empty = empty; legal = served.1; written = served.2 } in
    inr (inl (
      fault,
      port,
      listens,
      behind,
      subst (λ b. Serves taken failures b before after founders (if s.founded then Some founders else None) port fault old behind) (sym anew) (begins, told),
      ends,
    ))

-- nobody was served where a trace was to begin
pub unbegun : {E : Type 0} (taken : E → Option (List ℕ)) (failures : E → ℕ) (s : Serving) (founders : Weights) (e : Ending) (before after : Taken) (old behind new : E) (f : ServeFault) (port : ℕ)
    → IfSome before.bytes (λ bytes. bytes ≡ []) → after ≡ before → Tells (listening_line port) (stream taken failures old behind) → Fails (server_line f) e (stream taken failures behind new) → KeepsTo taken failures s founders e before after old new
unbegun taken failures s founders e before after old behind new f port empty same told fails =
    let stays : Unresumed s.lose (if s.founded then Some founders else None) before after (Unserved f) = record { stays = inl (ap (λ (t : Taken). t.bytes) same); failed = ap (λ (t : Taken). t.failures) same; why = tt } in
    inr (inr (Unserved f, port, behind, stays, inr (inl (empty, told)), record { status_is = fails.status_is; no_trace = fails.no_trace; line_told = fails.line_told }))

-- a trace went on
pub went_on : {E : Type 0} (taken : E → Option (List ℕ)) (failures : E → ℕ) (s : Serving) (founders : Weights) (e : Ending) (before after : Taken) (old behind new : E) (fault : Option TraceFault) (port : ℕ)
    → s.resumed ≡ true → ListensOn s.port port → Resumes taken failures before after founders (if s.founded then Some founders else None) port fault old behind
    → Ends fault e (stream taken failures behind new) → KeepsTo taken failures s founders e before after old new
went_on taken failures s founders e before after old behind new fault port goes_on listens resumes ends =
    inr (inl (
      fault,
      port,
      listens,
      behind,
      subst (λ b. Serves taken failures b before after founders (if s.founded then Some founders else None) port fault old behind) (sym goes_on) resumes,
      ends,
    ))

-- or not
pub stood : {E : Type 0} (taken : E → Option (List ℕ)) (failures : E → ℕ) (s : Serving) (founders : Weights) (e : Ending) (before after : Taken) (old behind new : E) (f : ResumeFault) (port : ℕ)
    → Unresumed s.lose (if s.founded then Some founders else None) before after f → Announced taken failures before.bytes port old behind → IsUnresumed f e (stream taken failures behind new)
    → KeepsTo taken failures s founders e before after old new
stood taken failures s founders e before after old behind new f port stays announced told = inr (inr (f, port, behind, stays, announced, told))
