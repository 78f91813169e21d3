-- A trace that is read back
use Rattle.std.specs.Prelude.{◌≡◌, ◌≢◌, ◌⊎◌, ⊤, ℕ, ◌+◌, List, [], ◌∷◌, ◌++◌, length, Option}
use Rattle.std.specs.List.{AllByRecursion}
use Rattle.rambo_names.specs.Weights.{Weights}
use Rattle.rambo_names.specs.declared.refusal.Refusal.{Refusal}
use Rattle.rambo_atomic.specs.Streams.{counted}
use Rattle.rambo_atomic.specs.Unreads.{TakesIn}
use Rattle.rambo_atomic.specs.declared.whole.StreamFault.{StreamFault}
use Rattle.rambo_atomic.specs.declared.whole.StreamFault.TheVariants as stream
use Rattle.rambo_node.specs.Steps.{Step}
use Rattle.rambo_text.specs.declared.fault.Fault.{Fault}
use Rattle.rambo_text.specs.declared.fault.Fault.TheVariants.{NoFounders}
use Rattle.rambo_text.specs.declared.fault.ScriptFault.{ScriptFault}
use Rattle.rambo_text.specs.declared.version.Version.TheVariants.{Two}
use Rattle.rambo_text.specs.Versions.{head_text}
use Rattle.rambo_text.specs.Words.{Lacks}
use Rattle.rambo_lines.specs.Faults.{IsLineFault, TellNoFounders, IsFaultyStep}
use Rattle.rambo_lines.specs.Scripts.{HasLine, steps_text}
use Rattle.rambo_lines.specs.StepLines.{step_line}
use Rattle.rambo_retrace.specs.declared.fault.RetraceFault.{RetraceFault}
use Rattle.rambo_retrace.specs.declared.fault.RetraceFault.TheVariants.{Read, Memory, Script, Refused}
use Rattle.rambo_retrace.specs.declared.retracing.Retraced.{Retraced}

-- the fault of a stream, in these words
abbrev pub of_stream : StreamFault → RetraceFault
of_stream stream.Read = Read
of_stream stream.Write = Read
of_stream stream.Memory = Memory

-- how many calls of the reader have failed then: one more where it failed
abbrev pub reads_failed : RetraceFault → ℕ → ℕ
reads_failed Read n = counted n
reads_failed Memory n = n
reads_failed (Script g) n = n
reads_failed (Refused line r) n = n

-- it isn't that a step was refused
abbrev pub IsUnrefused : RetraceFault → Type 0
IsUnrefused Read = ⊤
IsUnrefused Memory = ⊤
IsUnrefused (Script g) = ⊤
IsUnrefused (Refused line r) = ⊥

-- a text begins with this line, which has its line feed, and the rest is that of the lines after it
pub record IsWholeLine (text line rest : List ℕ) : Type 0 where
  pub no_feed : Lacks 10 line
  pub whole : text ≡ line ++ 10 ∷ rest

-- a line has so many bytes with its line feed
abbrev pub IsUsed : List ℕ → ℕ → Type 0
IsUsed line used = used ≡ length line + 1

-- a text doesn't begin with the line of version 2
abbrev pub TellsNoHead : List ℕ → Type 0
TellsNoHead held = (rest : List ℕ) → held ≢ head_text Two ++ rest

-- its first line tells no founders: it lacks its line feed, or is faulty
abbrev pub FoundsNone : List ℕ → Fault → Type 0
FoundsNone held f =
    (Lacks 10 held × (f ≡ NoFounders)) ⊎ ((line : List ℕ) × (rest : List ℕ) × IsWholeLine held line rest × IsLineFault TellNoFounders line f)

-- the first line of what was read isn't that of version 2, or the second tells no founders; this and what follows is held
abbrev pub TellsNone : Option (List ℕ) → Option (List ℕ) → List ℕ → List ℕ → ScriptFault → Type 0
TellsNone old new before held g =
    ((g ≡ record { fault = NoFounders; line = 1 }) × TakesIn old new before held × TellsNoHead held)
    ⊎ ((g.line ≡ 2) × TakesIn old new before (head_text Two ++ held) × FoundsNone held g.fault)

-- the steps of some whole lines were taken, in their order, and what was read behind them is held
pub record Retraces (old new : List (Step Weights)) (first left : Option (List ℕ)) (before held : List ℕ) : Type 0 where
  pub steps : List (Step Weights)
  pub lines : AllByRecursion HasLine steps
  pub taken : new ≡ old ++ steps
  pub read : TakesIn first left before (steps_text steps ++ held)

-- what is told of these steps, and of the bytes behind them
abbrev pub retraced : List (Step Weights) → List ℕ → Retraced
retraced steps torn = record { steps = length steps; bytes = length (steps_text steps); torn = length torn }

-- a line of this number tells no step, or one that may be refused so
abbrev pub IsFaultAt : (Step Weights → Refusal → Type 0) → ℕ → List ℕ → RetraceFault → Type 0
IsFaultAt Refuses number line Read = ⊥
IsFaultAt Refuses number line Memory = ⊥
IsFaultAt Refuses number line (Script g) = (g.line ≡ number) × IsFaultyStep line g.fault
IsFaultAt Refuses number line (Refused n r) = (n ≡ number) × ((st : Step Weights) × HasLine st × (line ≡ step_line st) × Refuses st r)

-- the first of some lines is such a one
pub record StopsAtFirst (Refuses : Step Weights → Refusal → Type 0) (number : ℕ) (lines : List ℕ) (f : RetraceFault) : Type 0 where
  pub line : List ℕ
  pub rest : List ℕ
  pub is_first : IsWholeLine lines line rest
  pub fault : IsFaultAt Refuses number line f

-- why no more steps were taken
abbrev pub StopsAt : (Step Weights → Refusal → Type 0) → ℕ → List ℕ → RetraceFault → Type 0
StopsAt Refuses number lines f = (f ≡ Read) ⊎ (f ≡ Memory) ⊎ StopsAtFirst Refuses number lines f

-- a taker of these steps may refuse one so
abbrev pub RefusedBy : {T : Type 0} → (T → List (Step Weights)) → (T → Step Weights → Refusal → Type 0) → List (Step Weights) → Step Weights → Refusal → Type 0
RefusedBy {T} steps refuses taken st r = (t : T) × (steps t ≡ taken) × refuses t st r

-- the step of the first of some lines, which has so many bytes, was taken
pub record TakesFirst (lines : List ℕ) (used : ℕ) (old new : List (Step Weights)) : Type 0 where
  pub step : Step Weights
  pub has_line : HasLine step
  pub rest : List ℕ
  pub is_first : IsWholeLine lines (step_line step) rest
  pub used_is : IsUsed (step_line step) used
  pub taken : new ≡ old ++ step ∷ []
