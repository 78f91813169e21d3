use Rattle.std.proofs.Common.{◌-◌, ◌^◌}
use Rattle.std.specs.Io.KnownBytes.{Keeps}
use Rattle.rambo_atomic.specs.Streams.{AreInterrupted}
use Rattle.rambo_atomic.proofs.wrapped.write.Given as goal

abbrev pub invariant-loop-interruptions : goal.invariant-loop-interruptions
invariant-loop-interruptions g l =
    Keeps (g.T.Writer.taken l.fn.inner) (g.T.Writer.taken l.inner) × AreInterrupted (g.T.Writer.write_gives l.bytes) l.interruptions l.fn.inner l.inner

abbrev pub decreases-loop-interruptions : goal.decreases-loop-interruptions
decreases-loop-interruptions g l = 2 ^ 64 - 1 - l.interruptions
