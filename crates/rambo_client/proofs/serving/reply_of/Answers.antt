use Rattle.std.proofs.Common.{◌∷◌, [], ◌++◌, sym, subst}
use Rattle.rambo_client.specs.Courses.{HasDone, HasBegun}
use Rattle.rambo_names.proofs.Errors.{on_err}
use Rattle.rambo_client.proofs.Gains.{says-kept}
use Rattle.rambo_client.proofs.serving.reply_of.Goals as goal

pub returns-in-Says-clause-ok : goal.returns-in-Says-clause-ok
returns-in-Says-clause-ok g c = λ qs calls.
    says-kept c.args.client.now.name c.args.client.now.founders qs c.args.request c.in-Says.reply (g.C.Cluster.took c.args.cluster.now) c.in-Says.is calls

pub returns-in_err-answer-in-Does-clause-err : goal.returns-in_err-answer-in-Does-clause-err
returns-in_err-answer-in-Does-clause-err g c = λ qs calls.
    on_err c.from_residual.result
    (subst (λ q. HasBegun c.args.client.now.name c.args.client.now.founders (qs ++ q ∷ []) (g.C.Cluster.took c.operate.new.cluster)) (sym c.in-Does.is) (c.in_err-answer-in-Does.ensures.err qs calls))

pub returns-in_ok-answer-in-Does-clause-ok : goal.returns-in_ok-answer-in-Does-clause-ok
returns-in_ok-answer-in-Does-clause-ok g c = λ qs calls.
    subst (λ q. HasDone c.args.client.now.name c.args.client.now.founders (qs ++ q ∷ []) (g.C.Cluster.took c.operate.new.cluster)) (sym c.in-Does.is) (c.in_ok-answer-in-Does.ensures.ok qs calls)
