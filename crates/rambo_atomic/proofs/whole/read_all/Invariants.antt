use Rattle.std.proofs.Common.{◌≡◌}
use Rattle.std.specs.Io.KnownBytes.{Consumes}
use Rattle.rambo_atomic.proofs.whole.read_all.Given as goal

abbrev pub invariant-loop-all : goal.invariant-loop-all
invariant-loop-all g l =
    Consumes (g.R.Source.left l.fn.reader) (g.R.Source.left l.reader) l.all.items
    × (g.R.Source.failures l.reader ≡ g.R.Source.failures l.fn.reader)

abbrev pub decreases-loop-all : goal.decreases-loop-all
decreases-loop-all g l = g.R.Source.reads_left l.reader
