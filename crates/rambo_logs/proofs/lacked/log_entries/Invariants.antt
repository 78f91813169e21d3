use Rattle.std.proofs.Common.{◌≡◌, ◌+◌, ◌-◌, ◌≤◌, ◌++◌, take, drop, length, vec_len, vec_capacity}
use Rattle.std.specs.Prelude.{All}
use Rattle.rambo_logs.specs.Stored.{all_raised, IsWithin, AreHints}
use Rattle.rambo_logs.proofs.lacked.log_entries.Given as goal

abbrev pub invariant-loop-entry : goal.invariant-loop-entry
invariant-loop-entry l = record {
  room : vec_len l.log + (length l.entries - l.entry-index) ≤ vec_capacity l.log;
  within : All (IsWithin l.puts l.hints.items) l.entries;
  told : AreHints l.puts l.hints.items;
  log : l.log.items ≡ l.fn.log.items ++ take l.entry-index l.entries;
  raises : all_raised l.puts l.node l.hints.items (drop l.entry-index l.entries) ≡ all_raised l.puts l.node l.fn.hints.items l.entries;
}
