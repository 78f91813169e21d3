-- How a server goes on from a trace
use Rattle.std.specs.Prelude.{◌≡◌, ◌≢◌, ◌⊎◌, ◌+◌, ⊤, ℕ, List, [], ◌∷◌, ◌++◌, length, Option, Some, option_map, IfSome}
use Rattle.std.specs.Io.KnownBytes.{IsAtEnd, Keeps}
use mathlib.Core.List.{IsPrefix}
use Rattle.rambo_names.specs.Weights.{Weights, weighted_majorities}
use Rattle.rambo_atomic.specs.Streams.{counted}
use Rattle.rambo_atomic.specs.Unreads.{HasFeed, TakesIn}
use Rattle.rambo_node.specs.Steps.{Step}
use Rattle.rambo_run.specs.Legal.{IsLegal}
use Rattle.rambo_text.specs.Words.{Lacks}
use Rattle.rambo_text.specs.declared.fault.ScriptFault.{ScriptFault}
use Rattle.rambo_trace.specs.Traces.{trace_text}
use Rattle.rambo_retrace.specs.Retraces.{StopsAtFirst, TellsNone, reads_failed}
use Rattle.rambo_retrace.specs.declared.fault.RetraceFault.{RetraceFault}
use Rattle.rambo_retrace.specs.declared.fault.RetraceFault.TheVariants as retrace
use Rattle.rambo_recovery.specs.Recoveries.{WhyUntaken}
use Rattle.rambo_scribe.specs.declared.fault.TraceFault.{TraceFault}
use Rattle.rambo_scribe.specs.Traced.{HasWritten, Taken}
use Rattle.rambo_telling.specs.Telling.{Stream, Takes, Tells, listening_line, resumed_line, stream, torn_line}
use Rattle.rambo_lasting.specs.declared.fault.ResumeFault.{ResumeFault}
use Rattle.rambo_lasting.specs.declared.fault.ResumeFault.TheVariants.{Trace, Founders, Uncut, Unserved}

-- bytes that are known are the trace of these founders and steps, and behind it some that have no line feed
abbrev pub HoldsTrace : Option (List ℕ) → Weights → List (Step Weights) → List ℕ → Type 0
HoldsTrace held f steps torn = IfSome held (λ bytes. bytes ≡ trace_text f steps ++ torn) × Lacks 10 torn

-- a file as it was before it had a byte
abbrev pub emptied : Taken → Taken
emptied t = record { bytes = option_map (λ bytes. []) t.bytes; failures = t.failures }

-- a file that held a trace, and perhaps a last line that lacks its line feed, holds a longer trace now, which begins with the
-- steps of the old one; or after a fault a beginning of it
pub record GoesOn (before after : Taken) (asked : Option Weights) (fault : Option TraceFault) : Type 0 where
  pub founders : Weights
  pub steps : List (Step Weights)
  pub torn : List ℕ
  pub all : List (Step Weights)
  pub asked_is : IfSome asked (λ f. f ≡ founders)
  pub held : HoldsTrace before.bytes founders steps torn
  pub longer : IsPrefix steps all
  pub legal : IsLegal weighted_majorities founders all
  pub written : HasWritten (emptied before) after founders all fault

-- a file that held nothing holds a trace now
pub record Begins (before after : Taken) (founders : Weights) (fault : Option TraceFault) : Type 0 where
  pub all : List (Step Weights)
  pub empty : IfSome before.bytes (λ bytes. bytes ≡ [])
  pub legal : IsLegal weighted_majorities founders all
  pub written : HasWritten before after founders all fault

-- it is told that a last line was cut off, if one was
abbrev pub TellsCut : List ℕ → ℕ → Stream → Type 0
TellsCut [] line told = Takes [] told
TellsCut (b ∷ torn) line told = Tells (torn_line (length (b ∷ torn)) line) told

-- that, then how many steps there were, and then where the server listens
abbrev pub Announces : {E : Type 0} → (E → Option (List ℕ)) → (E → ℕ) → List ℕ → List (Step Weights) → ℕ → E → E → Type 0
Announces {E} taken failures torn steps port old new =
    (cut : E) × (resumed : E) × TellsCut torn (length steps + 3) (stream taken failures old cut)
    × Tells (resumed_line (length steps)) (stream taken failures cut resumed)
    × Tells (listening_line port) (stream taken failures resumed new)

-- nothing was told; or where a server listens that begins a trace in a file that held nothing; or all of that, of the trace in it
abbrev pub Announced : {E : Type 0} → (E → Option (List ℕ)) → (E → ℕ) → Option (List ℕ) → ℕ → E → E → Type 0
Announced taken failures held port old new =
    (new ≡ old)
    ⊎ ((IfSome held (λ bytes. bytes ≡ []) × Tells (listening_line port) (stream taken failures old new))
    ⊎ ((f : Weights) × (steps : List (Step Weights)) × (torn : List ℕ) × HoldsTrace held f steps torn × Announces taken failures torn steps port old new))

-- a server that was to go on from the trace in a file has served clients
abbrev pub Resumes : {E : Type 0} → (E → Option (List ℕ)) → (E → ℕ) → Taken → Taken → Weights → Option Weights → ℕ → Option TraceFault → E → E → Type 0
Resumes taken failures before after founders asked port fault old new =
    (Begins before after founders fault × Tells (listening_line port) (stream taken failures old new))
    ⊎ ((on : GoesOn before after asked fault) × Announces taken failures on.torn on.steps port old new)

-- what a file holds that held this, where nobody was served: the same; but for what stood behind its trace, where that was cut off
-- before a socket failed or memory ran out
abbrev pub Stays : ResumeFault → Option (List ℕ) → Option (List ℕ) → Type 0
Stays (Trace fault) before after = after ≡ before
Stays Founders before after = after ≡ before
Stays Uncut before after = Keeps before after
Stays (Unserved fault) before after =
    (after ≡ before)
    ⊎ ((f : Weights) × (steps : List (Step Weights)) × (torn : List ℕ) × HoldsTrace before f steps torn × (after ≡ option_map (λ bytes. trace_text f steps) before))

-- how many calls of a file have failed then: one more where it could not be read or cut
abbrev pub failed_by : ResumeFault → ℕ → ℕ
failed_by (Trace fault) n = reads_failed fault n
failed_by Founders n = n
failed_by Uncut n = counted n
failed_by (Unserved fault) n = n

-- it couldn't be cut off, where so many bytes stood behind the trace; or they couldn't be counted
abbrev pub IsUncut : ℕ → ResumeFault → Type 0
IsUncut torn (Trace fault) = ⊥
IsUncut torn Founders = ⊥
IsUncut torn Uncut = torn ≢ 0
IsUncut torn (Unserved fault) = ⊤

-- it comes of reading a trace, or of want of memory
abbrev pub IsOfReading : ResumeFault → Type 0
IsOfReading (Trace fault) = ⊤
IsOfReading Founders = ⊥
IsOfReading Uncut = ⊥
IsOfReading (Unserved fault) = ⊤

-- how many steps a server takes in all
abbrev pub last : ℕ
last = 18446744073709551615

-- the first two lines of what a file held tell no founders
abbrev pub TellsNoFounders : Option (List ℕ) → ScriptFault → Type 0
TellsNoFounders held fault =
    (left : Option (List ℕ)) × (rest : List ℕ) × TellsNone held left [] rest fault × (HasFeed rest ⊎ IsAtEnd left)

-- what a file held begins with a trace, and the next line tells no step, or one that isn't taken behind these
pub record StopsBehind (lose : ℕ) (held : Option (List ℕ)) (fault : RetraceFault) : Type 0 where
  pub founders : Weights
  pub steps : List (Step Weights)
  pub rest : List ℕ
  pub left : Option (List ℕ)
  pub read : TakesIn held left [] (trace_text founders steps ++ rest)
  pub stops : StopsAtFirst (WhyUntaken weighted_majorities founders last lose steps) (length steps + 3) rest fault

-- why a file isn't gone on from that held this, where these founders are asked for
abbrev pub WhyUnresumed : ℕ → Option Weights → Option (List ℕ) → ResumeFault → Type 0
WhyUnresumed lose asked held (Trace fault) =
    ((fault ≡ retrace.Read) ⊎ (fault ≡ retrace.Memory))
    ⊎ (((g : ScriptFault) × (fault ≡ retrace.Script g) × TellsNoFounders held g) ⊎ StopsBehind lose held fault)
WhyUnresumed lose asked held Founders =
    (wanted : Weights) × (founders : Weights) × (rest : List ℕ) × (left : Option (List ℕ)) × (asked ≡ Some wanted) × (founders ≢ wanted)
    × TakesIn held left [] (trace_text founders [] ++ rest)
WhyUnresumed lose asked held Uncut = (f : Weights) × (steps : List (Step Weights)) × (torn : List ℕ) × HoldsTrace held f steps torn × (length torn ≢ 0)
WhyUnresumed lose asked held (Unserved fault) = ⊤

-- nobody was served, for this fault
pub record Unresumed (lose : ℕ) (asked : Option Weights) (before after : Taken) (fault : ResumeFault) : Type 0 where
  pub stays : Stays fault before.bytes after.bytes
  pub failed : after.failures ≡ failed_by fault before.failures
  pub why : WhyUnresumed lose asked before.bytes fault
