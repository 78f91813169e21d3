use Rattle.std.proofs.Common.{IfErr}
use Rattle.rambo_visit.specs.Happened.{HasNoRoom}
use Rattle.rambo_visit.proofs.writing.write_all.Given as goal

abbrev pub invariant-loop-to : goal.invariant-loop-to
invariant-loop-to g l = IfErr l.done (HasNoRoom g.Q.Quorums.system g.J.Terms.founders g.J.Terms.capacity)
