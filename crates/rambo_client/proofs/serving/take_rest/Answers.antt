use Rattle.std.proofs.Common.{◌++◌, length, refl, sym, ap, ◌∙◌, subst, append_assoc, append-nil}
use Rattle.rambo_resp.specs.Replies.{reply_spelling}
use Rattle.rambo_commands.specs.Replies.{fault_reply}
use Rattle.rambo_client.specs.Replies.{requests, replies, after_all}
use Rattle.rambo_client.specs.Maps.{no_values}
use Rattle.rambo_client.specs.Talks.{Answers}
use Rattle.rambo_names.proofs.Errors.{on_err}
use Rattle.rambo_client.proofs.Gains.{begins-whole}
use Rattle.rambo_client.proofs.Pieces.{taken_of, untaken, begun, served, no_last, some_last}
use Rattle.rambo_client.proofs.serving.take_rest.Goals as goal

pub returns-in_err-feed-clause-err : goal.returns-in_err-feed-clause-err
returns-in_err-feed-clause-err g c = λ stream commands talk.
    on_err c.from_residual.result (untaken c.args.client.now.name c.args.client.now.founders c.args.decoder.now (g.C.Cluster.took c.args.cluster.now) stream c.args.piece.now commands talk)

pub returns-in_err-fault-clause-err : goal.returns-in_err-fault-clause-err
returns-in_err-fault-clause-err g c = λ stream commands talk.
    let name = c.args.client.now.name in
    let founders = c.args.client.now.founders in
    let h = g.C.Cluster.took c.args.cluster.now in
    let taken = c.in_ok-feed.ensures.ok stream (length commands) (taken_of name founders c.args.decoder.now h stream commands talk) in
    on_err c.from_residual-in_err-fault.result
    (begun name founders c.args.decoder.now h stream c.args.piece.now commands talk c.feed.new.decoder taken (g.C.Cluster.took c.answer_all.new.cluster)
    (c.in_err-fault.ensures.err (requests commands) talk.calls))

pub returns-in_err-write_fault-in-Some-clause-err : goal.returns-in_err-write_fault-in-Some-clause-err
returns-in_err-write_fault-in-Some-clause-err g c = λ stream commands talk.
    let name = c.args.client.now.name in
    let founders = c.args.client.now.founders in
    let h = g.C.Cluster.took c.args.cluster.now in
    let taken = c.in_ok-feed.ensures.ok stream (length commands) (taken_of name founders c.args.decoder.now h stream commands talk) in
    on_err c.from_residual-in_err-write_fault-in-Some.result
    (begun name founders c.args.decoder.now h stream c.args.piece.now commands talk c.feed.new.decoder taken (g.C.Cluster.took c.answer_all.new.cluster)
    (begins-whole name founders (requests commands ++ requests c.feed.new.decoder.waiting) (g.C.Cluster.took c.answer_all.new.cluster) (c.in_ok-fault.ensures.ok (requests commands) talk.calls)))

pub returns-in_ok-write_fault-in-Some-clause-ok : goal.returns-in_ok-write_fault-in-Some-clause-ok
returns-in_ok-write_fault-in-Some-clause-ok g c = λ stream commands talk.
    let name = c.args.client.now.name in
    let founders = c.args.client.now.founders in
    let h = g.C.Cluster.took c.args.cluster.now in
    let taken = c.in_ok-feed.ensures.ok stream (length commands) (taken_of name founders c.args.decoder.now h stream commands talk) in
    let new = replies (after_all no_values (requests commands)) (requests c.feed.new.decoder.waiting) in
    let said = reply_spelling (fault_reply c.in-Some.fault) in
    let last = some_last c.feed.new.decoder.ending c.in-Some.fault (sym c.in-Some.is ∙ c.in_ok-fault.ensures.fault) in (
      new ++ said,
      subst (Answers name founders c.answer_all.new.decoder (g.C.Cluster.took c.answer_all.new.cluster) (stream ++ c.args.piece.now) commands)
          (ap (λ l. new ++ l) last)
          (served name founders c.args.decoder.now h stream c.args.piece.now commands talk c.feed.new.decoder taken c.answer_all.new.decoder (g.C.Cluster.took c.answer_all.new.cluster) new
          c.in_ok-fault.ensures.given (c.in_ok-fault.ensures.ok (requests commands) talk.calls) refl),
      c.in_ok-write_fault-in-Some.ensures.ok ∙ ap (λ o. o ++ said) (c.in_ok-fault.ensures.written (requests commands) talk.calls) ∙ append_assoc c.args.out.now.items new said,
    )

pub returns-in-None-clause-ok : goal.returns-in-None-clause-ok
returns-in-None-clause-ok g c = λ stream commands talk.
    let name = c.args.client.now.name in
    let founders = c.args.client.now.founders in
    let h = g.C.Cluster.took c.args.cluster.now in
    let taken = c.in_ok-feed.ensures.ok stream (length commands) (taken_of name founders c.args.decoder.now h stream commands talk) in
    let new = replies (after_all no_values (requests commands)) (requests c.feed.new.decoder.waiting) in
    let last = no_last c.feed.new.decoder.ending (sym c.in-None.is ∙ c.in_ok-fault.ensures.fault) in (
      new,
      subst (Answers name founders c.answer_all.new.decoder (g.C.Cluster.took c.answer_all.new.cluster) (stream ++ c.args.piece.now) commands)
          (ap (λ l. new ++ l) last ∙ append-nil new)
          (served name founders c.args.decoder.now h stream c.args.piece.now commands talk c.feed.new.decoder taken c.answer_all.new.decoder (g.C.Cluster.took c.answer_all.new.cluster) new
          c.in_ok-fault.ensures.given (c.in_ok-fault.ensures.ok (requests commands) talk.calls) refl),
      c.in_ok-fault.ensures.written (requests commands) talk.calls,
    )
