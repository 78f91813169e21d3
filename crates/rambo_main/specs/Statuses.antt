-- Exit statuses, and what was read and written before a command ended
use Rattle.std.specs.Prelude.{◌≡◌, ◌⊎◌, ℕ, Bool, List, [], ◌∷◌, ◌++◌, Option, None, Some, codes, if◌then◌else◌}
use Rattle.std.specs.Io.KnownBytes.{Appends, IsAtEnd, Keeps}
use Rattle.clap.specs.declared.error.kind.ErrorKind.{ErrorKind}
use Rattle.clap.specs.Words.{Text, IsAmong, fault_of}
use Rattle.rambo_atomic.specs.Streams.{Begins}
use Rattle.rambo_text.specs.declared.fault.ScriptFault.{ScriptFault}
use Rattle.rambo_text.specs.declared.fault.ReplayFault.{ReplayFault}
use Rattle.rambo_text.specs.declared.fault.ReplayFault.TheVariants.{Script, Read, Write, Memory}
use Rattle.rambo_check.specs.Checks.{IsLeft, IsChecked}
use Rattle.rambo_check.specs.Placings.{IsPlaced, IsRepeatedIn}
use Rattle.rambo_check.specs.declared.placing.Telling.{Telling}
use Rattle.rambo_check.specs.declared.placing.Telling.TheVariants.{Verdicts, Reasons, Outcome}
use Rattle.rambo_check.specs.Texts.{IsFaultIn}
use Rattle.rambo_steps.specs.Replays.{Replays, Leaves, reads_failed, writes_failed}
use Rattle.rambo_names.specs.Weights.{Weights}
use Rattle.rambo_client.specs.declared.fault.LocalFault.{LocalFault}
use Rattle.rambo_client.specs.declared.fault.LocalFault.TheVariants as local
use Rattle.rambo_client.specs.Talks.{Served, Stopped}
use Rattle.rambo_command_line.specs.Lines.{rambo, founders_or, IsChecking, IsFounders, IsServing}
use Rattle.rambo_command_line.specs.declared.line.Checking.{Checking}
use Rattle.rambo_command_line.specs.declared.serving.Serving.{Serving}
use Rattle.rambo_command_line.specs.declared.clash.Clash.{Clash}
use Rattle.rambo_command_line.specs.Clashes.{clash_of, words_of}
use Rattle.rambo_serving.specs.declared.ending.Ending.{Ending}
use Rattle.rambo_main.specs.Servers as servers
use Rattle.rambo_telling.specs.Telling.{Stream, IsFine, Takes, Tells, GivesUp, EndsAs, fault_line, status_of, stream}

-- A command ended by a fault. One call of the reader failed after Read, and one of the writer after Write, and none
-- else. The line of the fault was written. So a command that is out of memory, reported as Memory or as the fault of a
-- line that was being read, can't be distinguished from one that gives up.
pub record EndsBy (f : ReplayFault) (status : ℕ) (read write told : Stream) : Type 0 where
  pub status_is : status ≡ status_of f
  pub reads : read.failures_now ≡ reads_failed f read.failures
  pub writes : write.failures_now ≡ writes_failed f write.failures
  pub line : Tells (fault_line f) told

-- a replay that is done
pub record IsReplayed (status : ℕ) (read write : Stream) : Type 0 where
  pub done : status ≡ 0
  pub end : IsAtEnd read.new
  pub reads : IsFine read
  pub writes : IsFine write
  pub written : Replays read.old write.old write.new

-- how a replay ends: done, or by a fault, after which is written what that fault leaves
abbrev pub ReplaysTo : ℕ → Stream → Stream → Stream → Type 0
ReplaysTo status read write told =
    IsReplayed status read write
    ⊎ ((f : ReplayFault) × EndsBy f status read write told × Leaves f read.old write.old write.new)

-- the status after a check of which each verdict was yes, or some was no
abbrev pub verdict_status : Bool → ℕ
verdict_status all = if all then 0 else 3

-- a check that is done, where this is what it writes of a text
pub record IsCheckedTo (IsTold : List ℕ → List ℕ → Bool → Type 0) (status : ℕ) (read write : Stream) : Type 0 where
  pub text : List ℕ
  pub lines : List ℕ
  pub all : Bool
  pub done : status ≡ verdict_status all
  pub left : IsLeft read.old text
  pub checked : IsTold text lines all
  pub end : IsAtEnd read.new
  pub reads : IsFine read
  pub writes : IsFine write
  pub written : Appends write.old write.new lines

-- a prefix of the lines of a check was written
pub record StopsCheck (IsTold : List ℕ → List ℕ → Bool → Type 0) (input old new : Option (List ℕ)) : Type 0 where
  pub text : List ℕ
  pub lines : List ℕ
  pub all : Bool
  pub left : IsLeft input text
  pub checked : IsTold text lines all
  pub written : Begins old new lines

-- the text that was read has this fault
abbrev pub HasTextFault : (List ℕ → ScriptFault → Type 0) → Option (List ℕ) → ScriptFault → Type 0
HasTextFault IsFault input f = (text : List ℕ) × IsLeft input text × IsFault text f

-- what was written by a check that met a fault
abbrev pub LeavesCheck : (List ℕ → List ℕ → Bool → Type 0) → (List ℕ → ScriptFault → Type 0) → ReplayFault → Option (List ℕ) → Option (List ℕ) → Option (List ℕ)
    → Type 0
LeavesCheck IsTold IsFault (Script f) input old new = HasTextFault IsFault input f × Keeps old new
LeavesCheck IsTold IsFault Read input old new = Keeps old new
LeavesCheck IsTold IsFault Write input old new = StopsCheck IsTold input old new
LeavesCheck IsTold IsFault Memory input old new = Keeps old new

-- how a check ends by which a text has this told of it, or these faults: done, or by a fault
abbrev pub EndsCheck : (List ℕ → List ℕ → Bool → Type 0) → (List ℕ → ScriptFault → Type 0) → ℕ → Stream → Stream → Stream → Type 0
EndsCheck IsTold IsFault status read write told =
    IsCheckedTo IsTold status read write
    ⊎ ((f : ReplayFault) × EndsBy f status read write told × LeavesCheck IsTold IsFault f read.old write.old write.new)

-- how a check ends that is asked, or isn't, to tell why
abbrev pub ChecksTo : Bool → ℕ → Stream → Stream → Stream → Type 0
ChecksTo why = EndsCheck (IsChecked why) IsFaultIn

-- how one ends that puts the gets in their places first
abbrev pub PlacesTo : Telling → ℕ → Stream → Stream → Stream → Type 0
PlacesTo telling = EndsCheck (IsPlaced telling) (λ text f. IsFaultIn text f ⊎ IsRepeatedIn text f)

-- what is asked for once the gets are in their places, if they are put there
abbrev pub telling_of : Checking → Option Telling
telling_of c = if c.print then Some Outcome else if c.place then Some (if c.why then Reasons else Verdicts) else None

-- how a check ends, by that
abbrev pub JudgesBy : Option Telling → Bool → ℕ → Stream → Stream → Stream → Type 0
JudgesBy None why = ChecksTo why
JudgesBy (Some telling) why = PlacesTo telling

abbrev pub JudgesTo : Checking → ℕ → Stream → Stream → Stream → Type 0
JudgesTo c = JudgesBy (telling_of c) c.why

-- how words end that ask for a check, unless there was no room to read them
abbrev pub CheckTo : List Text → ℕ → Stream → Stream → Stream → Type 0
CheckTo words status read write told =
    (EndsBy Memory status read write told × Keeps write.old write.new)
    ⊎ ((checking : Checking) × IsChecking words checking × JudgesTo checking status read write told)

-- the same fault, in the words of a replay
abbrev pub of_local : LocalFault → ReplayFault
of_local local.Read = Read
of_local local.Write = Write
of_local local.Memory = Memory

-- a client that was served by nodes of these founders
pub record IsServed (founders : Weights) (status : ℕ) (read write : Stream) : Type 0 where
  pub done : status ≡ 0
  pub reads : IsFine read
  pub writes : IsFine write
  pub served : Served founders read.old read.new write.old write.new

-- how serving a client ends: done, or by a fault, after which a prefix of the replies was written
abbrev pub ServesTo : Weights → ℕ → Stream → Stream → Stream → Type 0
ServesTo founders status read write told =
    IsServed founders status read write
    ⊎ ((f : LocalFault) × EndsBy (of_local f) status read write told × Stopped founders read.old read.new write.old write.new)

-- the line that reports founders that aren't valid
abbrev pub bad_founders : List ℕ
bad_founders = codes "bad founders" ++ 10 ∷ []

-- founders that aren't valid: nothing was written
pub record IsRefused (status : ℕ) (write told : Stream) : Type 0 where
  pub status_is : status ≡ 2
  pub unwritten : Takes [] write
  pub line : Tells bad_founders told

-- and nothing was read
abbrev pub IsRejected : ℕ → Stream → Stream → Stream → Type 0
IsRejected status read write told = IsRefused status write told × (read.new ≡ read.old) × IsFine read

abbrev pub LocalEnds : Option Weights → ℕ → Stream → Stream → Stream → Type 0
LocalEnds (Some founders) status read write told = ServesTo founders status read write told
LocalEnds None status read write told = IsRejected status read write told

-- how words end that ask for a client to be served, unless there was no room to read them
abbrev pub LocalTo : List Text → ℕ → Stream → Stream → Stream → Type 0
LocalTo words status read write told =
    (EndsBy Memory status read write told × Keeps write.old write.new)
    ⊎ ((founders : Option Weights) × IsFounders (founders_or (codes "1") words) founders × LocalEnds founders status read write told)

-- words that aren't to be done: nothing was written, and why was reported
pub record IsMistaken (words : List ℕ) (status : ℕ) (write told : Stream) : Type 0 where
  pub status_is : status ≡ 2
  pub unwritten : Takes [] write
  pub line : Tells (words ++ 10 ∷ []) told

-- how serving many clients ends, where the options go together and there are founders
abbrev pub ServeEnds : {E : Type 0} → (E → Option (List ℕ)) → (E → ℕ) → Serving → Option Clash → Option Weights → Ending → Stream → E → E → Type 0
ServeEnds taken failures s (Some clash) founders e write old new = IsMistaken (words_of clash) e.status write (stream taken failures old new) × (e.trace ≡ None)
ServeEnds taken failures s None (Some founders) e write old new = servers.ServesTo taken failures s founders e write old new
ServeEnds taken failures s None None e write old new = IsRefused e.status write (stream taken failures old new) × (e.trace ≡ None)

-- how words end that ask for it, unless there was no room to read them
abbrev pub ServeTo : {E : Type 0} → (E → Option (List ℕ)) → (E → ℕ) → List Text → Ending → Stream → E → E → Type 0
ServeTo taken failures words e write old new =
    (GivesUp e.status write (stream taken failures old new) × (e.trace ≡ None))
    ⊎ ((s : Serving) × IsServing words s × ServeEnds taken failures s (clash_of s) s.founders e write old new)

-- how a command of words that ask for no task ends
abbrev pub AnswersTo : List Text → ℕ → Stream → Stream → Type 0
AnswersTo words status write told =
    GivesUp status write told
    ⊎ ((k : ErrorKind) × IsAmong k (fault_of rambo words) × EndsAs k status write told)
