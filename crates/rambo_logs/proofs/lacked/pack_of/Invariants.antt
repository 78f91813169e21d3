use Rattle.std.proofs.Common.{◌≡◌, take}
use Rattle.rambo_logs.specs.Stored.{copies_of}
use Rattle.rambo_logs.proofs.lacked.pack_of.Given as goal

abbrev pub invariant-loop-entry : goal.invariant-loop-entry
invariant-loop-entry l = l.copies.items ≡ copies_of l.puts.items (take l.entry-index l.entries)
