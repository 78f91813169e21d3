use Rattle.std.proofs.Common.{◌≡◌, ◌++◌, take}
use Rattle.rambo_config_map.proofs.places.append_slots.Given as goal

abbrev pub invariant-loop-slot : goal.invariant-loop-slot
invariant-loop-slot g l = (l.slots.items ≡ l.initial.slots.items ++ take l.slot-index l.more) × (l.slots.capacity ≡ l.initial.slots.capacity)
