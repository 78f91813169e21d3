-- What is reported to the user, and the exit status
use Rattle.std.specs.Prelude.{◌≡◌, ◌⊎◌, ℕ, List, [], ◌∷◌, ◌++◌, Option, codes, decimal}
use Rattle.std.specs.Io.KnownBytes.{Appends}
use Rattle.clap.specs.declared.error.kind.ErrorKind.{ErrorKind}
use Rattle.clap.specs.declared.error.kind.ErrorKind.TheVariants.{DisplayHelp, DisplayVersion}
use Rattle.rambo_atomic.specs.Streams.{counted, Begins}
use Rattle.rambo_text.specs.Faults.{told_of_replay}
use Rattle.rambo_text.specs.declared.fault.ReplayFault.{ReplayFault}
use Rattle.rambo_text.specs.declared.fault.ReplayFault.TheVariants.{Script, Read, Write, Memory}

-- a stream before and after: the bytes that it has left or has taken, where these are known, and how many of its
-- calls failed
pub record Stream : Type 0 where
  pub old : Option (List ℕ)
  pub new : Option (List ℕ)
  pub failures : ℕ
  pub failures_now : ℕ

abbrev pub stream : {S : Type 0} → (S → Option (List ℕ)) → (S → ℕ) → S → S → Stream
stream bytes failures old new =
    record { old = bytes old; new = bytes new; failures = failures old; failures_now = failures new }

-- no call failed
abbrev pub IsFine : Stream → Type 0
IsFine s = s.failures_now ≡ s.failures

-- no call failed, and the text was taken whole
pub record Takes (text : List ℕ) (s : Stream) : Type 0 where
  pub fine : IsFine s
  pub taken : Appends s.old s.new text

-- a call failed, and a prefix of the text was taken before
pub record Breaks (text : List ℕ) (s : Stream) : Type 0 where
  pub failed : s.failures_now ≡ counted s.failures
  pub taken : Begins s.old s.new text

-- a text was written to standard error, as far as that took it
abbrev pub Tells : List ℕ → Stream → Type 0
Tells text told = Takes text told ⊎ Breaks text told

-- the line that reports a fault
abbrev pub fault_line : ReplayFault → List ℕ
fault_line f = told_of_replay f ++ 10 ∷ []

-- the line that reports that a socket failed
abbrev pub socket_line : List ℕ
socket_line = codes "fault socket" ++ 10 ∷ []

-- the line that reports on which port a server listens
abbrev pub listening_line : ℕ → List ℕ
listening_line port = codes "listening " ++ decimal port ++ 10 ∷ []

-- the line that reports which refusal the step of a line of a trace met
abbrev pub refused_line : ℕ → ℕ → List ℕ
refused_line number line = codes "script fault refused " ++ decimal number ++ codes " at line " ++ decimal line ++ 10 ∷ []

-- the line that reports how many steps of its trace a server took
abbrev pub resumed_line : ℕ → List ℕ
resumed_line steps = codes "resumed " ++ decimal steps ++ codes " steps" ++ 10 ∷ []

-- the line that reports how many bytes of the last line of a trace were cut off
abbrev pub torn_line : ℕ → ℕ → List ℕ
torn_line bytes line = codes "cut " ++ decimal bytes ++ codes " bytes at line " ++ decimal line ++ 10 ∷ []

-- the status after a fault
abbrev pub status_of : ReplayFault → ℕ
status_of (Script f) = 2
status_of Read = 1
status_of Write = 1
status_of Memory = 1

-- clap answers with a text that was asked for, and not with a mistake
abbrev pub IsShown : ErrorKind → Type 0
IsShown k = (k ≡ DisplayHelp) ⊎ (k ≡ DisplayVersion)

-- some text was written; or the writer failed, and that was reported
abbrev pub Shows : ℕ → Stream → Stream → Type 0
Shows status write told =
    (text : List ℕ) × (((status ≡ 0) × Takes text write)
    ⊎ ((status ≡ status_of Write) × Breaks text write × Tells (fault_line Write) told))

-- nothing was written, and a mistake in the words was reported
pub record Mistaken (status : ℕ) (write told : Stream) : Type 0 where
  pub status_is : status ≡ 2
  pub unwritten : Takes [] write
  pub text : List ℕ
  pub line : Tells text told

-- nothing was written, since there was no room for what clap gives, and that was reported
pub record GivesUp (status : ℕ) (write told : Stream) : Type 0 where
  pub status_is : status ≡ status_of Memory
  pub unwritten : Takes [] write
  pub line : Tells (fault_line Memory) told

-- how it ends, where clap answers with an error of this kind
abbrev pub EndsAs : ErrorKind → ℕ → Stream → Stream → Type 0
EndsAs k status write told =
    (IsShown k → Shows status write told) × (¬ (IsShown k) → Mistaken status write told)
