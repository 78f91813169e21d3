-- How faults of streams are reported
use Rattle.std.specs.Prelude.{ℕ, List, codes}
use Rattle.rambo_atomic.specs.declared.whole.StreamFault.{StreamFault}
use Rattle.rambo_atomic.specs.declared.whole.StreamFault.TheVariants.{Read, Write, Memory}

abbrev pub words_of : StreamFault → List ℕ
words_of Read = codes "fault read"
words_of Write = codes "fault write"
words_of Memory = codes "fault memory"
