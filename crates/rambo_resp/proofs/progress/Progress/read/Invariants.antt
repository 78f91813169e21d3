use Rattle.std.proofs.Common.{◌≡◌, length}
use Rattle.rambo_resp.specs.Progresses.{running, run, Extends}
use Rattle.rambo_resp.proofs.progress.Progress.read.Given as goal

abbrev pub invariant-loop-rest : goal.invariant-loop-rest
invariant-loop-rest l = record {
  same : run (running l.self) l.rest ≡ run (running l.fn.self) l.fn.piece;
  kept : Extends l.fn.self.waiting l.self.waiting;
}

abbrev pub decreases-loop-rest : goal.decreases-loop-rest
decreases-loop-rest l = length l.rest
