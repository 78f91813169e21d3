use Rattle.std.proofs.Common.{◌≡◌, take}
use Rattle.rambo_names.specs.Names.{names}
use Rattle.rambo_outbox.specs.Asking.{enough, those}
use Rattle.rambo_outbox.proofs.asking.enough_before.Given as goal

-- so many are still to be taken
abbrev pub invariant-loop-left : goal.invariant-loop-left
invariant-loop-left g l = enough g.Q.Quorums.system l.config l.who (those l.silent l.is_silent (take l.left l.before)) ≡ enough g.Q.Quorums.system l.config l.fn.who (those l.silent l.is_silent (take l.place (names l.fn.others)))

abbrev pub decreases-loop-left : goal.decreases-loop-left
decreases-loop-left g l = l.left
