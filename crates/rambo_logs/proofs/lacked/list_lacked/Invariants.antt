use Rattle.std.proofs.Common.{◌≡◌, filter, take}
use Rattle.rambo_logs.specs.Stored.{is_lacked}
use Rattle.rambo_logs.proofs.lacked.list_lacked.Given as goal

abbrev pub invariant-loop-entry : goal.invariant-loop-entry
invariant-loop-entry l = l.lacked.items ≡ filter (is_lacked l.puts l.hints l.node) (take l.entry-index l.entries)
