use Rattle.std.proofs.Common.{◌∙◌, sym, ap}
use Rattle.rambo_names.specs.Weights.{members_of}
use Rattle.rambo_client.specs.Calls.{lowest}
use Rattle.rambo_local.specs.Clusters.{took_by}
use Rattle.rambo_names.proofs.Errors.{on_err}
use Rattle.rambo_local.proofs.Histories.{fresh_took}
use Rattle.rambo_client.proofs.Gains.{on_ok-weaker, on_err-weaker}
use Rattle.rambo_client.proofs.Pieces.{nothing, served_as, stopped_as}
use Rattle.rambo_local.proofs.serving.local_on.Goals as goal

pub returns-in_err-founders-clause-err : goal.returns-in_err-founders-clause-err
returns-in_err-founders-clause-err g c =
    let w = c.args.world.now in
    on_err c.from_residual.result (nothing (lowest (members_of w.founders)) w.founders (g.R.Source.left c.args.reader.now) (g.W.Sink.taken c.args.writer.now) (took_by w) (fresh_took w w.founders c.requires.fresh (λ i. w.founders)))

pub returns-in_default-clause-err : goal.returns-in_default-clause-err
returns-in_default-clause-err g c =
    let w = c.args.world.now in
    nothing (lowest (members_of w.founders)) w.founders (g.R.Source.left c.args.reader.now) (g.W.Sink.taken c.args.writer.now) (took_by w) (fresh_took w w.founders c.requires.fresh (λ i. w.founders))

pub serve-requires : goal.serve-requires
serve-requires g c = fresh_took c.args.world.now c.in-Some.client.founders c.requires.fresh (sym (c.in-Some.ensures.founders ∙ c.in_ok-founders.ensures))

pub returns-clause-ok : goal.returns-clause-ok
returns-clause-ok g c =
    let client = c.in-Some.client in
    on_ok-weaker c.serve.result _ _
    (served_as client.name client.founders c.args.world.now.founders (g.R.Source.left c.args.reader.now) (g.R.Source.left c.serve.new.reader) (g.W.Sink.taken c.args.writer.now) (g.W.Sink.taken c.serve.new.writer)
    (took_by c.serve.new.cluster) (c.in-Some.ensures.founders ∙ c.in_ok-founders.ensures) (c.in-Some.ensures.lowest ∙ ap (λ f. lowest (members_of f)) c.in_ok-founders.ensures))
    c.serve.ensures.ok

pub returns-clause-err : goal.returns-clause-err
returns-clause-err g c =
    let client = c.in-Some.client in
    on_err-weaker c.serve.result _ _
    (stopped_as client.name client.founders c.args.world.now.founders (g.R.Source.left c.args.reader.now) (g.R.Source.left c.serve.new.reader) (g.W.Sink.taken c.args.writer.now) (g.W.Sink.taken c.serve.new.writer)
    (took_by c.serve.new.cluster) (c.in-Some.ensures.founders ∙ c.in_ok-founders.ensures) (c.in-Some.ensures.lowest ∙ ap (λ f. lowest (members_of f)) c.in_ok-founders.ensures))
    c.serve.ensures.err
