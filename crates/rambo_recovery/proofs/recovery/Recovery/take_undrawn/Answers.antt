use Rattle.std.proofs.Common.{◌≡◌, None, Some, OnOk, IfErr, sym, subst}
use Rattle.rambo_run.specs.Runs.{run}
use Rattle.rambo_run.specs.Steps.{refusal}
use Rattle.rambo_recovery.specs.Recoveries.{WhyUntaken}
use Rattle.rambo_recovery.proofs.Owning.{no_delivery}
use Rattle.rambo_recovery.proofs.recovery.Recovery.take_undrawn.Goals as goal

pub take_other-requires : goal.take_other-requires
take_other-requires g c = (c.requires-raw.1.1.1, no_delivery c.args.step c.in_default.not-Deliver)

pub returns-in-Deliver-clause-accepted : goal.returns-in-Deliver-clause-accepted
returns-in-Deliver-clause-accepted g c = subst (λ st. OnOk c.take_delivery.result ((f : _) → g.J.Terms.founders ≡ Some f → refusal g.Q.Quorums.system (run g.Q.Quorums.system f c.args.self.now) st ≡ None)) (sym c.in-Deliver.is) c.take_delivery.ensures.accepted

pub returns-in-Deliver-clause-cause : goal.returns-in-Deliver-clause-cause
returns-in-Deliver-clause-cause g c = subst (λ st. IfErr c.take_delivery.result (λ r. (f : _) → g.J.Terms.founders ≡ Some f → WhyUntaken g.Q.Quorums.system f g.J.Terms.capacity g.J.Terms.lose c.args.self.now st r)) (sym c.in-Deliver.is) c.take_delivery.ensures.cause
