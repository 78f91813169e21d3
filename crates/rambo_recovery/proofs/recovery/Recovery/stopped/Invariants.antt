use Rattle.std.proofs.Common.{◌≡◌, ◌<◌, ◌≤◌, ℕ, Some, false}
use Rattle.std.specs.Bool.{MatchBool}
use Rattle.std.specs.FinSet as set
use Rattle.rambo_names.specs.Names.{IsName}
use Rattle.rambo_run.specs.Runs.{run}
use Rattle.rambo_pass.specs.Passes.{HasStopped, IsGoing}
use Rattle.rambo_recovery.proofs.recovery.Recovery.stopped.Given as goal

abbrev pub invariant-loop-number : goal.invariant-loop-number
invariant-loop-number g l = record {
  same : l.self ≡ l.initial.self;
  known : (f : _) → g.J.Terms.founders ≡ Some f → (name : ℕ) → IsName name → name < l.number → MatchBool (set.contains l.stopped name) (HasStopped (run g.Q.Quorums.system f l.initial.self) name) (IsGoing (run g.Q.Quorums.system f l.initial.self) name);
  above : (name : ℕ) → l.number ≤ name → set.contains l.stopped name ≡ false;
}
