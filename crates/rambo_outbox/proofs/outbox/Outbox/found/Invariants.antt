use Rattle.std.proofs.Common.{◌≡◌, length, map}
use Rattle.rambo_outbox.specs.Found.{found_in, nothing_found}
use Rattle.rambo_outbox.specs.Outboxes.{numbers_of}
use Rattle.rambo_outbox.specs.Wishes.{phases}
use Rattle.rambo_outbox.proofs.outbox.Outbox.found.Given as goal

-- what is left is still to be found
abbrev pub invariant-loop-call : goal.invariant-loop-call
invariant-loop-call g l = found_in l.self.asked (phases l.self l.wants_room (map numbers_of l.calls)) nothing_found ≡ found_in l.self.asked (phases l.self l.wants_room (map numbers_of l.rest)) l.found

abbrev pub decreases-loop-call : goal.decreases-loop-call
decreases-loop-call g l = length l.rest
