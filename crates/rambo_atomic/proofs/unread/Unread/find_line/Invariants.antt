use Rattle.std.proofs.Common.{◌≡◌, ◌≤◌, true}
use Rattle.rambo_atomic.specs.Unreads.{KnowsEnd, TakesIn, HasFeed, EndsInPiece, work_left}
use Rattle.rambo_atomic.proofs.unread.Unread.find_line.Given as goal

abbrev pub invariant-loop-self : goal.invariant-loop-self
invariant-loop-self g l = record {
  knows : KnowsEnd l.self (g.R.Source.left l.reader);
  bytes : TakesIn (g.R.Source.left l.fn.reader) (g.R.Source.left l.reader) l.fn.self.held l.self.held;
  ended : l.fn.self.ended ≡ true → l.self ≡ l.fn.self;
  kept : HasFeed l.fn.self.held → (l.self ≡ l.fn.self) × (l.reader ≡ l.fn.reader);
  stops : ¬ (HasFeed l.fn.self.held) → EndsInPiece l.self.held;
  work : work_left (g.R.Source.reads_left l.reader) l.self ≤ work_left (g.R.Source.reads_left l.fn.reader) l.fn.self;
  fine : g.R.Source.failures l.reader ≡ g.R.Source.failures l.fn.reader;
}

abbrev pub decreases-loop-self : goal.decreases-loop-self
decreases-loop-self g l = g.R.Source.reads_left l.reader
