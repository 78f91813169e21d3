use Rattle.std.proofs.Common.{sym, ap, ◌∙◌}
use Rattle.std.proofs.lemmas.Result.{on_ok_weaker, IfErr-weaker}
use Rattle.rambo_names.specs.declared.refusal.Refusal.TheVariants.{NotActive, Stopped}
use Rattle.rambo_joiner.specs.Statuses.{is_early, is_stopped}
use Rattle.rambo_bids.specs.Wishes.{wish_causes}
use Rattle.rambo_node.proofs.Judged.{least_behind}
use Rattle.rambo_node.proofs.node.Node.may_recon.Goals as goal

pub returns-clause-ok : goal.returns-clause-ok
returns-clause-ok g c =
    let x = c.args.self.now.state in
    let late = sym (c.is_early.ensures ∙ ap (λ v. is_early v.state.status) c.self.view_is) ∙ c.if-is_early.false in
    let runs = sym (c.is_stopped.ensures ∙ ap (λ v. is_stopped v.state.status) c.self.view_is) ∙ c.if-is_stopped.false in
    on_ok_weaker c.may_wish.result
    (λ e. least_behind _ _ NotActive Stopped (wish_causes g.Q.Quorums.system x.name x.known x.map x.vote x.attempt c.args.wish.now) late runs ∙ e) c.may_wish.ensures.ok

pub returns-clause-refused : goal.returns-clause-refused
returns-clause-refused g c =
    let x = c.args.self.now.state in
    let late = sym (c.is_early.ensures ∙ ap (λ v. is_early v.state.status) c.self.view_is) ∙ c.if-is_early.false in
    let runs = sym (c.is_stopped.ensures ∙ ap (λ v. is_stopped v.state.status) c.self.view_is) ∙ c.if-is_stopped.false in
    IfErr-weaker c.may_wish.result _ _
    (λ r e. least_behind _ _ NotActive Stopped (wish_causes g.Q.Quorums.system x.name x.known x.map x.vote x.attempt c.args.wish.now) late runs ∙ e) c.may_wish.ensures.refused

pub is_early-requires : goal.is_early-requires
is_early-requires g c = assumption

pub is_stopped-requires : goal.is_stopped-requires
is_stopped-requires g c = assumption

pub may_wish-requires : goal.may_wish-requires
may_wish-requires g c = assumption
