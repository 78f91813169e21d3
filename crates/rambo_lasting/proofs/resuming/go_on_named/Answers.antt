use Rattle.std.proofs.Common.{ap, refl, sym, subst, ◌∙◌}
use Rattle.std.specs.Prelude.{Option, Some, IfErr}
use Rattle.std.proofs.lemmas.Result.{IfErr-weaker, IfOk-weaker}
use Rattle.rambo_names.specs.Weights.{Weights}
use Rattle.rambo_scribe.specs.Traced.{Taken, taken_by}
use Rattle.rambo_lasting.specs.Resumings.{Announced, Unresumed}
use Rattle.rambo_lasting.proofs.GoingOn.{goes_on_from, same_file, taken}
use Rattle.rambo_lasting.proofs.Untaken.{stays_read}
use Rattle.rambo_lasting.proofs.resuming.go_on_named.Goals as goal

pub returns-in-Err-clause-unserved : goal.returns-in-Err-clause-unserved
returns-in-Err-clause-unserved g c =
    let before = taken g.K.Holds.held (g.F.Sink.failures c.args.reading) in
    let told = c.in-Err.ensures in
    subst (λ e. IfErr e (λ f. (asked : Option Weights) → Unresumed c.args.options.now.lose asked before (taken_by g.F.Sink.taken g.F.Sink.failures c.given_up.result.file) f)) (sym c.given_up.ensures.fault)
    (λ asked. record {
      stays = stays_read c.in-Err.fault g.K.Holds.held (g.F.Sink.taken c.given_up.result.file) told.own c.given_up.ensures.file;
      failed = c.given_up.ensures.failures ∙ told.failed;
      why = told.why asked;
    })

pub returns-clause-served : goal.returns-clause-served
returns-clause-served g c =
    let before = taken g.K.Holds.held (g.F.Sink.failures c.args.reading) in
    let after = taken_by g.F.Sink.taken g.F.Sink.failures c.serve_recovered.result.file in
    let same = same_file _ _ _ _ c.into_inner-file.ensures.held (ap g.F.Sink.failures c.into_inner-file.ensures.same ∙ c.in-Ok.ensures.fine) in
    IfOk-weaker c.serve_recovered.result.ended _ _ (λ fault on. (goes_on_from before _ after (Some c.args.founders) c.args.founders fault same refl on.0, on.1)) c.serve_recovered.ensures.served

pub returns-clause-unserved : goal.returns-clause-unserved
returns-clause-unserved g c =
    let after = taken_by g.F.Sink.taken g.F.Sink.failures c.serve_recovered.result.file in
    let same = same_file _ _ _ _ c.into_inner-file.ensures.held (ap g.F.Sink.failures c.into_inner-file.ensures.same ∙ c.in-Ok.ensures.fine) in
    IfErr-weaker c.serve_recovered.result.ended _ _ (λ f un asked. subst (λ (before : Taken). Unresumed c.args.options.now.lose asked before after f) same (un asked)) c.serve_recovered.ensures.unserved

pub returns-clause-told : goal.returns-clause-told
returns-clause-told g c = λ bad.
    subst (λ held. Announced g.E.Sink.taken g.E.Sink.failures held c.args.port c.args.errors.now c.serve_recovered.new.errors) c.into_inner-file.ensures.held (c.serve_recovered.ensures.told bad)
