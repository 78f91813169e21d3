use Rattle.std.proofs.Common.{◌≡◌, max, drop}
use Rattle.rambo_outcome.specs.Notes.{most_bytes}
use Rattle.rambo_outcome.proofs.pieces.most_bytes_of.Given as goal

abbrev pub invariant-loop-event : goal.invariant-loop-event
invariant-loop-event l = max l.most (most_bytes (drop l.event-index l.events)) ≡ most_bytes l.events
