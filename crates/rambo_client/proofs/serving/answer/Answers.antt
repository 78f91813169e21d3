use Rattle.std.proofs.Common.{◌++◌, ◌∷◌, []}
use Rattle.rambo_names.proofs.Errors.{on_err}
use Rattle.rambo_client.proofs.Gains.{begins-whole}
use Rattle.rambo_client.proofs.serving.answer.Goals as goal

pub returns-in_err-reply-clause-err : goal.returns-in_err-reply-clause-err
returns-in_err-reply-clause-err g c = λ qs calls. on_err c.from_residual.result (c.in_err-reply.ensures.err qs calls)

pub returns-in_err-append_reply-clause-err : goal.returns-in_err-append_reply-clause-err
returns-in_err-append_reply-clause-err g c = λ qs calls.
    on_err c.from_residual-in_err-append_reply.result
    (begins-whole c.args.client.now.name c.args.client.now.founders (qs ++ c.args.request ∷ []) (g.C.Cluster.took c.reply_of.new.cluster) (c.in_ok-reply.ensures.ok qs calls))
