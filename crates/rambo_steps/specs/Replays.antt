-- What a replay writes, and what it leaves after a fault
use Rattle.std.specs.Prelude.{◌≡◌, ◌⊎◌, ℕ, List, Option, IfSome}
use Rattle.std.specs.Io.KnownBytes.{Appends, Keeps}
use Rattle.rambo_names.specs.Weights.{weighted_majorities}
use Rattle.rambo_atomic.specs.Streams.{counted, Begins}
use Rattle.rambo_run.specs.Runs.{outcome_of}
use Rattle.rambo_text.specs.declared.fault.ReplayFault.{ReplayFault}
use Rattle.rambo_text.specs.declared.fault.ScriptFault.{ScriptFault}
use Rattle.rambo_text.specs.declared.fault.ReplayFault.TheVariants.{Script, Read, Write, Memory}
use Rattle.rambo_outcome.specs.Outcomes.{outcome_lines}
use Rattle.rambo_text.specs.declared.version.Version.{Version}
use Rattle.rambo_text.specs.Versions.{BehindHead}
use Rattle.rambo_lines.specs.Scripts.{ScriptState}
use Rattle.rambo_lines.specs.Versions.{IsScriptIn, IsHeadFault}
use Rattle.rambo_lines.specs.Faults.{IsScriptFault, TellsBytes, RanOut}

-- the text of what the run of a script gives, in a version
abbrev pub replayed : Version → ScriptState → List ℕ
replayed version s = outcome_lines version (outcome_of weighted_majorities s.founders s.steps)

-- the bytes are a script in a version, and the text is that of its run in that version
pub record IsReplay (bytes text : List ℕ) : Type 0 where
  pub version : Version
  pub script : ScriptState
  pub is_script : IsScriptIn version bytes script
  pub text_is : text ≡ replayed version script

-- what was written, from old to new, is the text of the run of what was read, where that is known
pub record Replays (input old new : Option (List ℕ)) : Type 0 where
  pub text : List ℕ
  pub is_replay : IfSome input (λ bytes. IsReplay bytes text)
  pub written : Appends old new text

-- a prefix of that text was written
pub record Stops (input old new : Option (List ℕ)) : Type 0 where
  pub text : List ℕ
  pub is_replay : IfSome input (λ bytes. IsReplay bytes text)
  pub written : Begins old new text

-- what is after a head is no script, or memory ran out while a line that has bytes was read
abbrev pub IsFaultyBehind : List ℕ → ScriptFault → Type 0
IsFaultyBehind bytes f = IsScriptFault bytes f ⊎ RanOut TellsBytes bytes f

-- what was read is no script: the head is faulty, or what is after it
abbrev pub IsNoScript : List ℕ → ScriptFault → Type 0
IsNoScript bytes f = IsHeadFault bytes f ⊎ BehindHead (λ version. IsFaultyBehind) bytes f

-- after a fault nothing was written, but for one of the writer
abbrev pub Leaves : ReplayFault → Option (List ℕ) → Option (List ℕ) → Option (List ℕ) → Type 0
Leaves (Script f) input old new = IfSome input (λ bytes. IsNoScript bytes f) × Keeps old new
Leaves Read input old new = Keeps old new
Leaves Write input old new = Stops input old new
Leaves Memory input old new = Keeps old new

-- how many calls of the reader failed, after a fault
abbrev pub reads_failed : ReplayFault → ℕ → ℕ
reads_failed (Script f) n = n
reads_failed Read n = counted n
reads_failed Write n = n
reads_failed Memory n = n

-- and how many of the writer
abbrev pub writes_failed : ReplayFault → ℕ → ℕ
writes_failed (Script f) n = n
writes_failed Read n = n
writes_failed Write n = counted n
writes_failed Memory n = n

-- why the bytes of a script gave no text
abbrev pub GivesUp : List ℕ → ReplayFault → Type 0
GivesUp bytes f = (f ≡ Memory) ⊎ ((g : ScriptFault) × (f ≡ Script g) × IsNoScript bytes g)
