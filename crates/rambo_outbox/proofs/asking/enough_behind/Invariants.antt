use Rattle.std.proofs.Common.{◌≡◌, drop, length}
use Rattle.rambo_names.specs.Names.{names}
use Rattle.rambo_outbox.specs.Asking.{enough, those}
use Rattle.rambo_outbox.proofs.asking.enough_behind.Given as goal

-- so many are still to be left out
abbrev pub invariant-loop-left : goal.invariant-loop-left
invariant-loop-left g l = drop l.left l.behind ≡ drop l.place (names l.fn.others)

abbrev pub decreases-loop-left : goal.decreases-loop-left
decreases-loop-left g l = l.left

-- those that are left are still to be taken
abbrev pub invariant-loop-name : goal.invariant-loop-name
invariant-loop-name g l = enough g.Q.Quorums.system l.config l.who (those l.silent l.is_silent l.behind) ≡ enough g.Q.Quorums.system l.config l.fn.who (those l.silent l.is_silent (drop l.place (names l.fn.others)))

abbrev pub decreases-loop-name : goal.decreases-loop-name
decreases-loop-name g l = length l.behind
