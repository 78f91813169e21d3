use Rattle.std.proofs.Common.{take}
use Rattle.rambo_placing.specs.Tables.{HasValues}
use Rattle.rambo_placing.specs.Values.{HasOwnValues}
use Rattle.rambo_placing.proofs.values.first_repeated_value.Given as goal

abbrev pub invariant-loop-place : goal.invariant-loop-place
invariant-loop-place l = record {
  own : HasOwnValues (take l.place l.event-items);
  values : HasValues (take l.place l.event-items) l.written.entries;
}
