use Rattle.std.proofs.Common.{◌∙◌, sym, ap, Ok}
use Rattle.rambo_names.proofs.Errors.{on_err}
use Rattle.rambo_client.proofs.Pieces.{oldest_some, one_carried, one_begun, none_carried, all_carried, none_waits, none_waits_at}
use Rattle.rambo_client.proofs.serving.answer_all.Goals as goal

pub returns-in_err-answer_command-in-Ok-Some-clause-err : goal.returns-in_err-answer_command-in-Ok-Some-clause-err
returns-in_err-answer_command-in-Ok-Some-clause-err g c = λ qs calls.
    let l = c.loop-command in
    on_err c.from_residual.result
    (one_begun c.args.client.now.name c.args.client.now.founders c.args.decoder.now l.decoder c.next.new.self (g.C.Cluster.took c.args.cluster.now) (g.C.Cluster.took l.cluster) c.args.out.now.items l.out.items l.invariant
    c.in-Ok-Some.command (oldest_some l.decoder.waiting l.decoder.ending c.in-Ok-Some.command (sym (ap Ok c.in-Ok-Some.field-0-is) ∙ c.in-Ok-Some.ensures.given)) c.next.ensures.left
    (g.C.Cluster.took c.answer_command.new.cluster) c.in_err-answer_command-in-Ok-Some.ensures.err qs calls)

pub loop-command-preserved : goal.loop-command-preserved
loop-command-preserved g c =
    let l = c.loop-command in
    one_carried c.args.client.now.name c.args.client.now.founders c.args.decoder.now l.decoder c.next.new.self (g.C.Cluster.took c.args.cluster.now) (g.C.Cluster.took l.cluster) c.args.out.now.items l.out.items l.invariant
    c.in-Ok-Some.command (oldest_some l.decoder.waiting l.decoder.ending c.in-Ok-Some.command (sym (ap Ok c.in-Ok-Some.field-0-is) ∙ c.in-Ok-Some.ensures.given)) c.next.ensures.left
    (g.C.Cluster.took c.answer_command.new.cluster) c.answer_command.new.out.items c.in_ok-answer_command-in-Ok-Some.ensures.ok c.in_ok-answer_command-in-Ok-Some.ensures.written

pub returns-in-Err-clause-ok : goal.returns-in-Err-clause-ok
returns-in-Err-clause-ok g c = λ qs calls.
    let l = c.loop-command in
    all_carried c.args.client.now.name c.args.client.now.founders c.args.decoder.now l.decoder (g.C.Cluster.took c.args.cluster.now) (g.C.Cluster.took l.cluster) c.args.out.now.items l.out.items l.invariant
    (none_waits_at l.decoder.waiting l.decoder.ending c.in-Err.fault c.in-Err.ensures.given) qs calls

pub returns-in-Ok-None-clause-ok : goal.returns-in-Ok-None-clause-ok
returns-in-Ok-None-clause-ok g c = λ qs calls.
    let l = c.loop-command in
    all_carried c.args.client.now.name c.args.client.now.founders c.args.decoder.now l.decoder (g.C.Cluster.took c.args.cluster.now) (g.C.Cluster.took l.cluster) c.args.out.now.items l.out.items l.invariant
    (none_waits l.decoder.waiting l.decoder.ending (sym (ap Ok c.in-Ok-None.field-0-is) ∙ c.in-Ok-None.ensures.given)) qs calls

pub loop-command-init : goal.loop-command-init
loop-command-init g c =
    none_carried c.args.client.now.name c.args.client.now.founders c.args.decoder.now (g.C.Cluster.took c.args.cluster.now) c.args.out.now.items
