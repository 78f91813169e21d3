use Rattle.std.proofs.Common.{◌≡◌}
use Rattle.rambo_atomic.specs.Unreads.{KnowsEnd, work_left}
use Rattle.rambo_check.proofs.TextSteps.{ReadSoFar}
use Rattle.rambo_check.proofs.text.read_behind.Given as goal

abbrev pub invariant-loop-line : goal.invariant-loop-line
invariant-loop-line g l = record {
  read : ReadSoFar l.version l.fn.unread (g.R.Source.left l.fn.reader) (g.R.Source.left l.reader) l.evidence l.unread l.line;
  knows : KnowsEnd l.unread (g.R.Source.left l.reader);
  fine : g.R.Source.failures l.reader ≡ g.R.Source.failures l.fn.reader;
}

abbrev pub decreases-loop-line : goal.decreases-loop-line
decreases-loop-line g l = work_left (g.R.Source.reads_left l.reader) l.unread
