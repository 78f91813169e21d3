use Rattle.std.proofs.Common.{length}
use Rattle.rambo_atomic.specs.Held.{held_of}
use Rattle.rambo_atomic.proofs.Found.{IsFound}
use Rattle.rambo_atomic.proofs.findings.findings_in.Given as goal

abbrev pub invariant-loop-id : goal.invariant-loop-id
invariant-loop-id l = IsFound l.history.events l.scope l.order l.rest l.findings (held_of l.scope l.held.one l.held.each.entries)

abbrev pub decreases-loop-id : goal.decreases-loop-id
decreases-loop-id l = length l.rest
