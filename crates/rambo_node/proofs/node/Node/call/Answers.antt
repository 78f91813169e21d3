use Rattle.std.proofs.Common.{◌≡◌, ◌+◌, None, refl, sym, ap, ◌∙◌, subst}
use Rattle.rambo_node.specs.Changes.{refusal_of, made_by}
use Rattle.rambo_node.specs.FullNodes.{beside_after}
use Rattle.rambo_names.proofs.Errors.{err_ok, err_if_ok, on_err}
use Rattle.rambo_node.proofs.node.Node.call.Goals as goal
use Rattle.rambo_node.specs.Acts as act

pub drop-op-requires : goal.drop-op-requires
drop-op-requires g c = assumption

pub may_call-requires : goal.may_call-requires
may_call-requires g c = assumption

pub returns-in_err-may_call-clause-judged : goal.returns-in_err-may_call-clause-judged
returns-in_err-may_call-clause-judged g c = err_ok c.from_residual.result _ _ c.from_residual.ensures.1

pub returns-in_err-may_call-clause-node : goal.returns-in_err-may_call-clause-node
returns-in_err-may_call-clause-node g c = err_ok c.from_residual.result _ _ c.from_residual.ensures.1

pub returns-in_err-may_call-clause-id : goal.returns-in_err-may_call-clause-id
returns-in_err-may_call-clause-id g c = err_if_ok c.from_residual.result _ _ c.from_residual.ensures.1

pub returns-in_err-may_call-clause-err : goal.returns-in_err-may_call-clause-err
returns-in_err-may_call-clause-err g c = on_err c.from_residual.result refl

pub ready_call-requires : goal.ready_call-requires
ready_call-requires g c = c.requires-raw.1.1

pub finish_call-requires : goal.finish_call-requires
finish_call-requires g c =
    let room = c.in_ok-ready_call.ensures in
    (c.requires-raw.1.1, (subst (λ x. refusal_of g.Q.Quorums.system x (act.Call c.args.op) ≡ None) (sym room.same) c.in_ok-may_call.ensures.ok, room.ok))

pub returns-clause-node : goal.returns-clause-node
returns-clause-node g c = c.finish_call.ensures.node ∙ ap (λ x. (made_by x (act.Call c.args.op)).node) c.in_ok-ready_call.ensures.same

pub returns-clause-beside : goal.returns-clause-beside
returns-clause-beside g c =
    let room = c.in_ok-ready_call.ensures in
    c.finish_call.ensures.beside ∙ λ i. beside_after (room.same i) (room.beside i) (act.Call c.args.op)

pub returns-clause-id : goal.returns-clause-id
returns-clause-id g c = c.finish_call.ensures.id ∙ ap (λ x. record { name = x.name; number = x.made + 1 }) c.in_ok-ready_call.ensures.same

pub returns-in_err-may_call-clause-beside : goal.returns-in_err-may_call-clause-beside
returns-in_err-may_call-clause-beside g c = err_ok c.from_residual.result _ _ c.from_residual.ensures.1

pub returns-in_err-may_call-clause-kept : goal.returns-in_err-may_call-clause-kept
returns-in_err-may_call-clause-kept g c = on_err c.from_residual.result refl
