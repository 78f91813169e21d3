use Rattle.std.proofs.Common.{◌≡◌, Some, IfErr, sym, subst}
use Rattle.rambo_node.specs.Changes.{refusal_of}
use Rattle.rambo_node.proofs.node.Node.may_quiet.Goals as goal
use Rattle.rambo_node.specs.Acts as act

pub may_join-requires : goal.may_join-requires
may_join-requires g c = assumption

pub may_restart-requires : goal.may_restart-requires
may_restart-requires g c = assumption

pub may_stop-requires : goal.may_stop-requires
may_stop-requires g c = assumption

pub may_collect-requires : goal.may_collect-requires
may_collect-requires g c = assumption

pub may_advance_collect-requires : goal.may_advance_collect-requires
may_advance_collect-requires g c = assumption

pub may_recon-requires : goal.may_recon-requires
may_recon-requires g c = assumption

pub may_rebid-requires : goal.may_rebid-requires
may_rebid-requires g c = assumption

pub may_advance_recon-requires : goal.may_advance_recon-requires
may_advance_recon-requires g c = assumption

pub returns-in-Join-clause-refused : goal.returns-in-Join-clause-refused
returns-in-Join-clause-refused g c = subst (λ q. IfErr c.may_join.result (λ r. refusal_of g.Q.Quorums.system c.args.self.now.state (act.Quietly q) ≡ Some r)) (sym c.in-Join.is) c.may_join.ensures.refused

pub returns-in-Again-clause-refused : goal.returns-in-Again-clause-refused
returns-in-Again-clause-refused g c = subst (λ q. IfErr c.may_restart.result (λ r. refusal_of g.Q.Quorums.system c.args.self.now.state (act.Quietly q) ≡ Some r)) (sym c.in-Again.is) c.may_restart.ensures.refused

pub returns-in-Stop-clause-refused : goal.returns-in-Stop-clause-refused
returns-in-Stop-clause-refused g c = subst (λ q. IfErr c.may_stop.result (λ r. refusal_of g.Q.Quorums.system c.args.self.now.state (act.Quietly q) ≡ Some r)) (sym c.in-Stop.is) c.may_stop.ensures.refused

pub returns-in-Collect-clause-refused : goal.returns-in-Collect-clause-refused
returns-in-Collect-clause-refused g c = subst (λ q. IfErr c.may_collect.result (λ r. refusal_of g.Q.Quorums.system c.args.self.now.state (act.Quietly q) ≡ Some r)) (sym c.in-Collect.is) c.may_collect.ensures.refused

pub returns-in-AdvanceCollect-clause-refused : goal.returns-in-AdvanceCollect-clause-refused
returns-in-AdvanceCollect-clause-refused g c = subst (λ q. IfErr c.may_advance_collect.result (λ r. refusal_of g.Q.Quorums.system c.args.self.now.state (act.Quietly q) ≡ Some r)) (sym c.in-AdvanceCollect.is) c.may_advance_collect.ensures.refused

pub returns-in-Recon-clause-refused : goal.returns-in-Recon-clause-refused
returns-in-Recon-clause-refused g c = subst (λ q. IfErr c.may_recon.result (λ r. refusal_of g.Q.Quorums.system c.args.self.now.state (act.Quietly q) ≡ Some r)) (sym c.in-Recon.is) c.may_recon.ensures.refused

pub returns-in-Rebid-clause-refused : goal.returns-in-Rebid-clause-refused
returns-in-Rebid-clause-refused g c = subst (λ q. IfErr c.may_rebid.result (λ r. refusal_of g.Q.Quorums.system c.args.self.now.state (act.Quietly q) ≡ Some r)) (sym c.in-Rebid.is) c.may_rebid.ensures.refused

pub returns-in-AdvanceRecon-clause-refused : goal.returns-in-AdvanceRecon-clause-refused
returns-in-AdvanceRecon-clause-refused g c = subst (λ q. IfErr c.may_advance_recon.result (λ r. refusal_of g.Q.Quorums.system c.args.self.now.state (act.Quietly q) ≡ Some r)) (sym c.in-AdvanceRecon.is) c.may_advance_recon.ensures.refused
