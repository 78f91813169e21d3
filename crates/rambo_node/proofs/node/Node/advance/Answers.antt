use Rattle.std.proofs.Common.{refl, ◌∙◌}
use Rattle.rambo_node.specs.Changes.{made_by}
use Rattle.rambo_node.specs.FullNodes.{beside_after}
use Rattle.rambo_names.proofs.Errors.{err_ok, err_if_ok, on_err}
use Rattle.rambo_node.proofs.node.Node.advance.Goals as goal
use Rattle.rambo_node.specs.Acts as act

pub drop-deed-requires : goal.drop-deed-requires
drop-deed-requires g c = assumption

pub drop-requires : goal.drop-requires
drop-requires g c = assumption

pub into_answer-requires : goal.into_answer-requires
into_answer-requires g c = assumption

pub may_advance-requires : goal.may_advance-requires
may_advance-requires g c = assumption

pub returns-in_err-found-clause-judged : goal.returns-in_err-found-clause-judged
returns-in_err-found-clause-judged g c = err_ok c.from_residual.result _ _ c.from_residual.ensures.1

pub returns-in_err-found-clause-node : goal.returns-in_err-found-clause-node
returns-in_err-found-clause-node g c = err_ok c.from_residual.result _ _ c.from_residual.ensures.1

pub returns-in_err-found-clause-answer : goal.returns-in_err-found-clause-answer
returns-in_err-found-clause-answer g c = err_if_ok c.from_residual.result _ _ c.from_residual.ensures.1

pub returns-in_err-found-clause-err : goal.returns-in_err-found-clause-err
returns-in_err-found-clause-err g c = on_err c.from_residual.result refl

pub ready_advance-requires : goal.ready_advance-requires
ready_advance-requires g c = (c.requires-raw.1.1, (c.in_ok-found.ensures.ok, (record { kept = refl; put = refl }, c.default-deed.ensures)))

pub finish_advance-requires : goal.finish_advance-requires
finish_advance-requires g c = (c.requires-raw.1.1, c.in_ok-ready_advance.ensures.moving)

pub returns-clause-judged : goal.returns-clause-judged
returns-clause-judged g c = c.in_ok-found.ensures.ok.accepted

pub returns-clause-node : goal.returns-clause-node
returns-clause-node g c =
    let m = c.in_ok-ready_advance.ensures in
    c.finish_advance.ensures.node ∙ λ i. (made_by (m.same i) (act.Advance (m.id i))).node

pub returns-clause-beside : goal.returns-clause-beside
returns-clause-beside g c =
    let m = c.in_ok-ready_advance.ensures in
    c.finish_advance.ensures.beside ∙ λ i. beside_after (m.same i) (m.beside i) (act.Advance (m.id i))

pub returns-in_err-found-clause-beside : goal.returns-in_err-found-clause-beside
returns-in_err-found-clause-beside g c = err_ok c.from_residual.result _ _ c.from_residual.ensures.1

pub returns-in_err-found-clause-kept : goal.returns-in_err-found-clause-kept
returns-in_err-found-clause-kept g c = on_err c.from_residual.result refl
