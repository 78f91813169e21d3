use Rattle.std.proofs.Common.{sym, subst}
use Rattle.rambo_names.specs.Weights.{members_of}
use Rattle.rambo_client.specs.Courses.{Course, no_steps}
use Rattle.rambo_direct.specs.Taken.{took_by}
use Rattle.rambo_names.proofs.Errors.{on_err}
use Rattle.rambo_client.proofs.Gains.{on_ok-weaker, on_err-weaker}
use Rattle.rambo_client.proofs.Pieces.{nothing, served_as, served_somehow, stopped_as, stopped_somehow}
use Rattle.rambo_client.specs.Calls.{lowest}
use Rattle.rambo_direct.proofs.serving.local.Goals as goal

pub returns-in_err-cluster-clause-err : goal.returns-in_err-cluster-clause-err
returns-in_err-cluster-clause-err g c =
    on_err c.from_residual.result (nothing (lowest (members_of c.args.founders)) c.args.founders (g.R.Source.left c.args.reader.now) (g.W.Sink.taken c.args.writer.now) (λ d. Unit {0}) tt)

pub returns-in_default-clause-err : goal.returns-in_default-clause-err
returns-in_default-clause-err g c =
    nothing (lowest (members_of c.args.founders)) c.args.founders (g.R.Source.left c.args.reader.now) (g.W.Sink.taken c.args.writer.now) (λ d. Unit {0}) tt

pub serve-requires : goal.serve-requires
serve-requires g c = subst (λ f. took_by c.in_ok-cluster.cluster.direct (no_steps f)) (sym c.in-Some.ensures.founders) c.in_ok-cluster.ensures

pub returns-clause-ok : goal.returns-clause-ok
returns-clause-ok g c =
    let left = g.R.Source.left c.args.reader.now in
    let left_now = g.R.Source.left c.serve.new.reader in
    let taken = g.W.Sink.taken c.args.writer.now in
    let taken_now = g.W.Sink.taken c.serve.new.writer in
    let took : Course → Type 0 = took_by c.serve.new.cluster.direct in
    on_ok-weaker c.serve.result _ _
    (λ s. served_somehow c.args.founders left left_now taken taken_now took
    (served_as c.in-Some.client.name c.in-Some.client.founders c.args.founders left left_now taken taken_now took c.in-Some.ensures.founders c.in-Some.ensures.lowest s))
    c.serve.ensures.ok

pub returns-clause-err : goal.returns-clause-err
returns-clause-err g c =
    let left = g.R.Source.left c.args.reader.now in
    let left_now = g.R.Source.left c.serve.new.reader in
    let taken = g.W.Sink.taken c.args.writer.now in
    let taken_now = g.W.Sink.taken c.serve.new.writer in
    let took : Course → Type 0 = took_by c.serve.new.cluster.direct in
    on_err-weaker c.serve.result _ _
    (λ s. stopped_somehow c.args.founders left left_now taken taken_now took
    (stopped_as c.in-Some.client.name c.in-Some.client.founders c.args.founders left left_now taken taken_now took c.in-Some.ensures.founders c.in-Some.ensures.lowest s))
    c.serve.ensures.err
