use Rattle.std.proofs.Common.{take}
use Rattle.rambo_history.specs.declared.event.CallId.{CallId}
use Rattle.rambo_history.specs.Proper.{Stands}
use Rattle.rambo_witness.proofs.missing.first_out.Given as goal

abbrev pub invariant-loop-id : goal.invariant-loop-id
invariant-loop-id l = (c : CallId) → Stands (take l.id-index l.calls) c → Stands l.order c
