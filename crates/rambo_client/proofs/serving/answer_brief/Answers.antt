use Rattle.std.proofs.Common.{◌∷◌, [], ◌++◌, OnOk, OnErr, subst}
use Rattle.rambo_resp.specs.BriefCommands.{items_of}
use Rattle.rambo_client.specs.Courses.{HasDone, HasBegun}
use Rattle.rambo_commands.specs.Requests.{request_of}
use Rattle.rambo_names.proofs.Errors.{on_err}
use Rattle.rambo_client.proofs.Gains.{begins-kept}
use Rattle.rambo_client.proofs.serving.answer_brief.Goals as goal

pub returns-in_err-request-clause-err : goal.returns-in_err-request-clause-err
returns-in_err-request-clause-err g c = λ qs calls.
    on_err c.from_residual.result (begins-kept c.args.client.now.name c.args.client.now.founders qs (request_of (items_of c.args.command) ∷ []) (g.C.Cluster.took c.args.cluster.now) calls)

pub returns-clause-ok : goal.returns-clause-ok
returns-clause-ok g c = λ qs calls.
    subst (λ q. OnOk c.answer.result (HasDone c.args.client.now.name c.args.client.now.founders (qs ++ q ∷ []) (g.C.Cluster.took c.answer.new.cluster))) c.in_ok-request.ensures.ok (c.answer.ensures.ok qs calls)

pub returns-clause-err : goal.returns-clause-err
returns-clause-err g c = λ qs calls.
    subst (λ q. OnErr c.answer.result (HasBegun c.args.client.now.name c.args.client.now.founders (qs ++ q ∷ []) (g.C.Cluster.took c.answer.new.cluster))) c.in_ok-request.ensures.ok (c.answer.ensures.err qs calls)
