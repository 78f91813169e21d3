use Rattle.std.proofs.Common.{take}
use Rattle.rambo_history.specs.Proper.{KeepsRealTime}
use Rattle.rambo_witness.specs.LastMade.{HasLast}
use Rattle.rambo_witness.proofs.out_of_order.first_out_of_order.Given as goal

abbrev pub invariant-loop-id : goal.invariant-loop-id
invariant-loop-id l = HasLast l.history.events (take l.id-index l.order) l.last × KeepsRealTime l.history.events (take l.id-index l.order)
