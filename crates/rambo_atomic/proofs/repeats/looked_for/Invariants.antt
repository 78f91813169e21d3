use Rattle.std.proofs.Common.{take}
use Rattle.rambo_atomic.proofs.Seen.{HasSeen}
use Rattle.rambo_atomic.specs.Scopes.{within}
use Rattle.rambo_atomic.proofs.repeats.looked_for.Given as goal

abbrev pub invariant-loop-id : goal.invariant-loop-id
invariant-loop-id l = HasSeen l.history.events (within l.scope) (take l.id-index l.order) l.seen.keys l.answered l.are_none
