use Rattle.rambo_resp.specs.BriefCommands.{items_of}
use Rattle.rambo_names.proofs.Errors.{on_err}
use Rattle.rambo_client.proofs.Fronts.{front_more, front_breaks}
use Rattle.rambo_client.proofs.serving.answer_front.Goals as goal

pub loop-command-init : goal.loop-command-init
loop-command-init g c = c.in_ok-rest.ensures.ok

pub loop-command-preserved : goal.loop-command-preserved
loop-command-preserved g c = λ stream commands talk.
    let l = c.loop-command in
    front_more c.args.client.now.name c.args.client.now.founders l.decoder c.next_in.new.self (g.C.Cluster.took l.cluster) stream commands c.args.piece.now l.rest.now c.in-Some.behind.now c.args.out.now.items l.out.items
    (items_of c.in-Some.command) (l.invariant stream commands talk) c.in-Some.ensures.spelled c.in-Some.ensures.taken
    (g.C.Cluster.took c.answer_brief.new.cluster) c.answer_brief.new.out.items c.in-Some.ensures.given.1 c.in_ok-answer_brief.ensures.ok c.in_ok-answer_brief.ensures.written

pub returns-in_err-answer_brief-clause-err : goal.returns-in_err-answer_brief-clause-err
returns-in_err-answer_brief-clause-err g c = λ stream commands talk.
    let l = c.loop-command in
    on_err c.from_residual-in_err-answer_brief.result
    (front_breaks c.args.client.now.name c.args.client.now.founders l.decoder c.next_in.new.self (g.C.Cluster.took l.cluster) stream commands c.args.piece.now l.rest.now c.in-Some.behind.now c.args.out.now.items l.out.items
    (items_of c.in-Some.command) (l.invariant stream commands talk) c.in-Some.ensures.spelled c.in-Some.ensures.taken
    (g.C.Cluster.took c.answer_brief.new.cluster) c.in_err-answer_brief.ensures.err)
