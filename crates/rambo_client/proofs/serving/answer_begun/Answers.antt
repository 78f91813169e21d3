use Rattle.std.proofs.Common.{length}
use Rattle.rambo_names.proofs.Errors.{on_err}
use Rattle.rambo_client.specs.Replies.{requests}
use Rattle.rambo_client.proofs.Pieces.{taken_of, untaken}
use Rattle.rambo_client.proofs.Fronts.{begun_front, begun_breaks}
use Rattle.rambo_client.proofs.serving.answer_begun.Goals as goal

pub returns-in_err-rest-clause-err : goal.returns-in_err-rest-clause-err
returns-in_err-rest-clause-err g c = λ stream commands talk.
    on_err c.from_residual.result (untaken c.args.client.now.name c.args.client.now.founders c.args.decoder.now (g.C.Cluster.took c.args.cluster.now) stream c.args.piece.now commands talk)

pub returns-in_err-_fault-clause-err : goal.returns-in_err-_fault-clause-err
returns-in_err-_fault-clause-err g c = λ stream commands talk.
    let name = c.args.client.now.name in
    let founders = c.args.client.now.founders in
    let h = g.C.Cluster.took c.args.cluster.now in
    let taken = c.in_ok-rest.ensures.ok stream (length commands) (taken_of name founders c.args.decoder.now h stream commands talk) in
    on_err c.from_residual-in_err-_fault.result
    (begun_breaks name founders c.args.decoder.now h stream commands talk c.feed_begun.new.decoder c.args.piece.now c.in_ok-rest.rest.now taken (g.C.Cluster.took c.answer_all.new.cluster)
    (c.in_err-_fault.ensures.err (requests commands) talk.calls))

pub returns-clause-ok : goal.returns-clause-ok
returns-clause-ok g c = λ stream commands talk.
    let name = c.args.client.now.name in
    let founders = c.args.client.now.founders in
    let h = g.C.Cluster.took c.args.cluster.now in
    let taken = c.in_ok-rest.ensures.ok stream (length commands) (taken_of name founders c.args.decoder.now h stream commands talk) in
    begun_front name founders c.args.decoder.now h stream commands talk c.feed_begun.new.decoder c.args.piece.now c.in_ok-rest.rest.now taken c.answer_all.new.decoder (g.C.Cluster.took c.answer_all.new.cluster)
    c.args.out.now.items c.answer_all.new.out.items c.in_ok-_fault.ensures.given (c.in_ok-_fault.ensures.ok (requests commands) talk.calls) (c.in_ok-_fault.ensures.written (requests commands) talk.calls)
