use Rattle.std.proofs.Common.{◌≡◌, ℕ, List}
use Rattle.std.specs.Io.KnownBytes.{Consumes}
use Rattle.rambo_atomic.specs.Unreads.{KnowsEnd}
use Rattle.rambo_atomic.proofs.unread.Unread.read_rest.Given as goal

abbrev pub invariant-loop-self : goal.invariant-loop-self
invariant-loop-self g l = record {
  knows : KnowsEnd l.self (g.R.Source.left l.reader);
  bytes : (given : List ℕ) × Consumes (g.R.Source.left l.fn.reader) (g.R.Source.left l.reader) given;
  fine : g.R.Source.failures l.reader ≡ g.R.Source.failures l.fn.reader;
}

abbrev pub decreases-loop-self : goal.decreases-loop-self
decreases-loop-self g l = g.R.Source.reads_left l.reader
