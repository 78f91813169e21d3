use Rattle.std.proofs.Common.{◌≡◌, ◌≤◌}
use Rattle.rambo_atomic.specs.Unreads.{KnowsEnd, work_left}
use Rattle.rambo_retrace.proofs.StepByStep.{Counts}
use Rattle.rambo_retrace.proofs.retracing.retrace.Given as goal

abbrev pub invariant-loop-unread : goal.invariant-loop-unread
invariant-loop-unread g l = record {
  counts : Counts (g.T.Taker.steps l.fn.taker) (g.T.Taker.steps l.taker) (g.S.Source.left l.fn.reader) (g.S.Source.left l.reader) l.fn.unread.held l.unread.held l.steps l.bytes;
  knows : KnowsEnd l.unread (g.S.Source.left l.reader);
  few : l.steps ≤ 9223372036854775808;
  fine : g.S.Source.failures l.reader ≡ g.S.Source.failures l.fn.reader;
}

abbrev pub decreases-loop-unread : goal.decreases-loop-unread
decreases-loop-unread g l = work_left (g.S.Source.reads_left l.reader) l.unread
