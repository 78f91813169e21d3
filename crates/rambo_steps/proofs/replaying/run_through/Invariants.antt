use Rattle.std.proofs.Common.{◌≡◌}
use Rattle.rambo_atomic.specs.Unreads.{KnowsEnd, work_left}
use Rattle.rambo_steps.proofs.Pieces.{RunsOn}
use Rattle.rambo_steps.proofs.replaying.run_through.Given as goal

abbrev pub invariant-loop-notes : goal.invariant-loop-notes
invariant-loop-notes g l = record {
  on : RunsOn l.version l.fn.unread (g.S.Source.left l.fn.reader) (g.S.Source.left l.reader) (g.R.Run.running l.running) l.unread l.place l.notes;
  knows : KnowsEnd l.unread (g.S.Source.left l.reader);
  fine : g.S.Source.failures l.reader ≡ g.S.Source.failures l.fn.reader;
}

abbrev pub decreases-loop-notes : goal.decreases-loop-notes
decreases-loop-notes g l = work_left (g.S.Source.reads_left l.reader) l.unread
