use Rattle.std.proofs.Common.{◌≤◌, length}
use Rattle.rambo_tag.proofs.Tellings.{Tells}
use Rattle.rambo_tag.proofs.Lists.{Lists}
use Rattle.rambo_tag.proofs.registers.Registers.changes_since.Given as goal

abbrev pub invariant-loop-left : goal.invariant-loop-left
invariant-loop-left g l = record {
  within : l.left ≤ length l.self-inside.log.items;
  tells : Tells l.self-inside.table.entries l.self-inside.log.items l.left l.base l.changes.items;
  lists : Lists l.self-inside.table.entries l.self-inside.log.items l.left l.changes.items;
}

abbrev pub decreases-loop-left : goal.decreases-loop-left
decreases-loop-left g l = l.left
