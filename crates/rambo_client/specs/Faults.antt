-- Faults, and which calls of the streams failed before them
use Rattle.std.specs.Prelude.{ℕ, List}
use Rattle.rambo_atomic.specs.StreamFaults.{words_of}
use Rattle.rambo_atomic.specs.Streams.{counted}
use Rattle.rambo_atomic.specs.declared.whole.StreamFault.{StreamFault}
use Rattle.rambo_atomic.specs.declared.whole.StreamFault.TheVariants as stream
use Rattle.rambo_client.specs.declared.fault.LocalFault.{LocalFault}
use Rattle.rambo_client.specs.declared.fault.LocalFault.TheVariants.{Read, Write, Memory}

-- how many calls of the reader failed, after a fault
abbrev pub reads_failed : LocalFault → ℕ → ℕ
reads_failed Read n = counted n
reads_failed Write n = n
reads_failed Memory n = n

-- and how many of the writer
abbrev pub writes_failed : LocalFault → ℕ → ℕ
writes_failed Read n = n
writes_failed Write n = counted n
writes_failed Memory n = n

-- how a fault is reported
abbrev pub told : LocalFault → List ℕ
told Read = words_of stream.Read
told Write = words_of stream.Write
told Memory = words_of stream.Memory

-- the same fault of a stream
abbrev pub of_stream : StreamFault → LocalFault
of_stream stream.Read = Read
of_stream stream.Write = Write
of_stream stream.Memory = Memory
