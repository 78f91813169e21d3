use Rattle.std.proofs.Common.{◌≡◌, ◌+◌, [], length}
use Rattle.rambo_recovery.specs.Recoveries.{AreNamed}
use Rattle.rambo_recovery.proofs.founding.found.Given as goal

abbrev pub invariant-loop-place : goal.invariant-loop-place
invariant-loop-place g l = record {
  made : l.roll ≡ (l.place + 1, []);
  each : length l.keepers.items ≡ l.place;
  named : AreNamed l.keepers.items;
}
