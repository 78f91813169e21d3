-- Faults of texts: their numbers and how they are reported
use Rattle.std.specs.Prelude.{ℕ, List, ◌++◌, codes, decimal}
use Rattle.rambo_atomic.specs.declared.whole.StreamFault.{StreamFault}
use Rattle.rambo_atomic.specs.declared.whole.StreamFault.TheVariants as stream
use Rattle.rambo_atomic.specs.StreamFaults.{words_of}
use Rattle.rambo_text.specs.declared.fault.Fault.{Fault}
use Rattle.rambo_text.specs.declared.fault.Fault.TheVariants.{NoFounders, UnknownWord, WrongCount, BadNumber, BadHex, LineTooLong, OutOfMemory, BadHistory}
use Rattle.rambo_text.specs.declared.fault.ScriptFault.{ScriptFault}
use Rattle.rambo_text.specs.declared.fault.ReplayFault.{ReplayFault}
use Rattle.rambo_text.specs.declared.fault.ReplayFault.TheVariants as replay

abbrev pub number_of : Fault → ℕ
number_of NoFounders = 1
number_of UnknownWord = 2
number_of WrongCount = 3
number_of BadNumber = 4
number_of BadHex = 5
number_of LineTooLong = 6
number_of OutOfMemory = 7
number_of BadHistory = 8

-- how a fault of a line is reported
abbrev pub told : ScriptFault → List ℕ
told f = codes "script fault S" ++ decimal (number_of f.fault) ++ codes " at line " ++ decimal f.line

-- how the fault of a replay is reported
abbrev pub told_of_replay : ReplayFault → List ℕ
told_of_replay (replay.Script f) = told f
told_of_replay replay.Read = words_of stream.Read
told_of_replay replay.Write = words_of stream.Write
told_of_replay replay.Memory = words_of stream.Memory

-- the same fault of a stream, in the words of a replay
abbrev pub of_stream : StreamFault → ReplayFault
of_stream stream.Read = replay.Read
of_stream stream.Write = replay.Write
of_stream stream.Memory = replay.Memory
