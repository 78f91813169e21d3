use Rattle.std.proofs.Common.{◌≡◌, None, sym, ap, ◌∙◌, subst}
use Rattle.rambo_node.specs.Changes.{refusal_of, made_by}
use Rattle.rambo_node.specs.Nodes.{open_call}
use Rattle.rambo_node.proofs.Advances.{again_done, rebid_done}
use Rattle.rambo_node.proofs.node.Node.do_quiet.Goals as goal
use Rattle.rambo_node.specs.Acts as act

pub do_join-requires : goal.do_join-requires
do_join-requires g c = assumption

pub do_stop-requires : goal.do_stop-requires
do_stop-requires g c = assumption

pub do_again-requires : goal.do_again-requires
do_again-requires g c = (c.requires-raw.1.1.0, subst (λ q. refusal_of g.Q.Quorums.system c.args.self.now.state (act.Quietly q) ≡ None) c.in-Again.is c.requires)

pub do_collect-requires : goal.do_collect-requires
do_collect-requires g c = (c.requires-raw.1.1.0, subst (λ q. refusal_of g.Q.Quorums.system c.args.self.now.state (act.Quietly q) ≡ None) c.in-Collect.is c.requires)

pub do_advance_collect-requires : goal.do_advance_collect-requires
do_advance_collect-requires g c = (c.requires-raw.1.1.0, subst (λ q. refusal_of g.Q.Quorums.system c.args.self.now.state (act.Quietly q) ≡ None) c.in-AdvanceCollect.is c.requires)

pub do_recon-requires : goal.do_recon-requires
do_recon-requires g c = (c.requires-raw.1.1.0, subst (λ q. refusal_of g.Q.Quorums.system c.args.self.now.state (act.Quietly q) ≡ None) c.in-Recon.is c.requires)

pub do_rebid-requires : goal.do_rebid-requires
do_rebid-requires g c = (c.requires-raw.1.1.0, subst (λ q. refusal_of g.Q.Quorums.system c.args.self.now.state (act.Quietly q) ≡ None) c.in-Rebid.is c.requires)

pub do_advance_recon-requires : goal.do_advance_recon-requires
do_advance_recon-requires g c = (c.requires-raw.1.1.0, subst (λ q. refusal_of g.Q.Quorums.system c.args.self.now.state (act.Quietly q) ≡ None) c.in-AdvanceRecon.is c.requires)

pub returns-in-Again-clause-effect : goal.returns-in-Again-clause-effect
unfolding made_by
returns-in-Again-clause-effect g c =
    let x = c.args.self.now.state in
    again_done x (open_call x c.in-Again.id) ∙ sym (ap (λ q. (made_by x (act.Quietly q)).deed.effect) c.in-Again.is)

pub returns-in-Rebid-clause-effect : goal.returns-in-Rebid-clause-effect
unfolding made_by
returns-in-Rebid-clause-effect g c =
    let x = c.args.self.now.state in
    rebid_done x x.attempt ∙ sym (ap (λ q. (made_by x (act.Quietly q)).deed.effect) c.in-Rebid.is)
