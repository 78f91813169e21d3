use Rattle.std.proofs.Common.{◌≡◌, [], replicate}
use Rattle.rambo_logs.specs.Stored.{entries_of}
use Rattle.rambo_logs.proofs.logs.Logs.new.Given as goal

abbrev pub invariant-loop-node : goal.invariant-loop-node
invariant-loop-node l = entries_of l.logs.items ≡ replicate l._node []
