use Rattle.std.proofs.Common.{sym, subst}
use Rattle.rambo_run.specs.Legal.{IsLegal}
use Rattle.rambo_recovery.proofs.recovery.Recovery.take.Goals as goal

pub returns-clause-legal : goal.returns-clause-legal
returns-clause-legal g c = λ f founded. subst (IsLegal g.Q.Quorums.system f) (sym c.draw_full.ensures) (c.take_undrawn-done.ensures.legal f founded)
