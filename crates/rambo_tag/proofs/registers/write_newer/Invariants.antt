use Rattle.std.proofs.Common.{◌≡◌}
use Rattle.rambo_tag.specs.Logs.{greatest_after, greatest_of}
use Rattle.rambo_tag.specs.Stamps.{AreAtMost}
use Rattle.rambo_tag.specs.Rows.{copies_of, stamps_of, stamps_after, room_in, IsIndexed}
use Rattle.rambo_tag.proofs.Rooms.{Wrote}
use Rattle.rambo_tag.proofs.registers.write_newer.Given as goal

abbrev pub invariant-loop-copy : goal.invariant-loop-copy
invariant-loop-copy g l = record {
  can_next : (goal.iterator-loop-copy g).can_next l.copy-iterator;
  is_finite : (goal.iterator-loop-copy g).is_finite l.copy-iterator;
  wrote : Wrote l.table.entries l.fn.now (greatest_of l.fn.copies.items) l.copy-iterator.rest.items (room_in l.table l.log);
  late : AreAtMost l.fn.now (stamps_of l.table.entries);
  indexed : IsIndexed l.table.entries l.log.items;
  copies : greatest_after (copies_of l.table.entries) l.copy-iterator.rest.items ≡ greatest_after (copies_of l.fn.table.entries) l.fn.copies.items;
  stamps : stamps_after l.fn.now (copies_of l.table.entries) (stamps_of l.table.entries) l.copy-iterator.rest.items
      ≡ stamps_after l.fn.now (copies_of l.fn.table.entries) (stamps_of l.fn.table.entries) l.fn.copies.items;
}
