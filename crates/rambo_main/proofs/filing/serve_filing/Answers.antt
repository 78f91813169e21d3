use Rattle.std.proofs.Common.{◌≡◌, ℕ, List, Option, None, Some, if◌then◌else◌, ap, refl, sym, subst}
use Rattle.std.specs.Prelude.{IsErr, OnErr}
use Rattle.std.proofs.lemmas.Result.{IfErr-at_err, IfOk-at_ok}
use Rattle.rambo_names.specs.Weights.{Weights, weighted_majorities}
use Rattle.rambo_node.specs.Steps.{Step}
use Rattle.rambo_run.specs.Legal.{IsLegal}
use Rattle.rambo_scribe.specs.Traced.{HasWritten, taken_by}
use Rattle.rambo_lasting.specs.Resumings.{Resumes, Unresumed}
use Rattle.rambo_main.specs.Files.{KeepsTo}
use Rattle.rambo_main.proofs.Filed.{begun, stood, unbegun, went_on}
use Rattle.rambo_main.proofs.filing.serve_filing.Goals.{in-Ok-ended, in-Err, in-Ok-ended-2, in-Err-ended}
use Rattle.rambo_main.proofs.filing.serve_filing.Goals as goal

pub returns-then-not-serving : goal.returns-then-not-serving
returns-then-not-serving g c =
    let E-taken = g.E.Sink.taken in
    let E-failures = g.E.Sink.failures in
    let s = c.args.serving.now in
    let old = c.args.errors.now in
    let behind = c.tell_listening.new.errors in
    let before = taken_by g.F.Sink.taken g.F.Sink.failures c.args.file in
    let after = taken_by g.F.Sink.taken g.F.Sink.failures c.serve_endless-writer.result.writer in
    let founded = c.options_of-options.ensures.founders in
    elim c.match-ended.branch [
      | in-Ok-ended w ↦
          let fault = w.in-Ok-ended.fault in
          let served = subst (λ f. (steps : List (Step Weights)) × IsLegal weighted_majorities f steps × HasWritten before after f steps fault) founded (IfOk-at_ok _ w.in-Ok-ended.is c.serve_endless-writer.ensures.written) in
          let ends = begun E-taken E-failures s c.args.founders w.ended_by-ending.result before after old behind w.ended_by-ending.new.errors fault c.in-Ok.port c.if-not-serving.true c.in-Ok.ensures
          (c.requires.empty c.if-not-serving.true) served c.tell_listening.ensures.line w.ended_by-ending.ensures in
          subst (λ e. KeepsTo E-taken E-failures s c.args.founders e before after old c.match-ended.errors) (sym w.ending-is)
          (subst (λ errors. KeepsTo E-taken E-failures s c.args.founders w.ended_by-ending.result before after old errors) (sym w.errors-is) ends)
      | in-Err w ↦
          let same = ap (taken_by g.F.Sink.taken g.F.Sink.failures) (subst (λ r. OnErr r (c.serve_endless-writer.result.writer ≡ c.args.file)) w.in-Err.is c.serve_endless-writer.ensures.unwritten) in
          let ends = unbegun E-taken E-failures s c.args.founders w.unserved-ending.result before after old behind w.unserved-ending.new.errors w.in-Err.fault c.in-Ok.port (c.requires.empty c.if-not-serving.true) same c.tell_listening.ensures.line w.unserved-ending.ensures in
          subst (λ e. KeepsTo E-taken E-failures s c.args.founders e before after old c.match-ended.errors) (sym w.ending-is)
          (subst (λ errors. KeepsTo E-taken E-failures s c.args.founders w.unserved-ending.result before after old errors) (sym w.errors-is) ends)
    ]

pub returns : goal.returns
returns g c =
    let E-taken = g.E.Sink.taken in
    let E-failures = g.E.Sink.failures in
    let s = c.args.serving.now in
    let old = c.args.errors.now in
    let behind = c.resume-file.new.errors in
    let before = taken_by g.F.Sink.taken g.F.Sink.failures c.args.file in
    let after = taken_by g.F.Sink.taken g.F.Sink.failures c.resume-file.result.file in
    let options = c.options_of-options in
    elim c.match-ended-2.branch [
      | in-Ok-ended-2 w ↦
          let fault = w.in-Ok-ended-2.fault in
          let resumes = subst (λ f. Resumes E-taken E-failures before after f (if s.founded then Some f else None) c.in-Ok.port fault old behind) options.ensures.founders (IfOk-at_ok _ w.in-Ok-ended-2.is c.resume-file.ensures.served) in
          let ends = went_on E-taken E-failures s c.args.founders w.ended_by-ending-in-Ok-ended-2.result before after old behind w.ended_by-ending-in-Ok-ended-2.new.errors fault c.in-Ok.port c.if-not-serving.false c.in-Ok.ensures
          resumes w.ended_by-ending-in-Ok-ended-2.ensures in
          subst (λ e. KeepsTo E-taken E-failures s c.args.founders e before after old c.match-ended-2.errors) (sym w.ending-is)
          (subst (λ errors. KeepsTo E-taken E-failures s c.args.founders w.ended_by-ending-in-Ok-ended-2.result before after old errors) (sym w.errors-is) ends)
      | in-Err-ended w ↦
          let fault = w.in-Err-ended.fault in
          let stays = subst (λ n. Unresumed n (if s.founded then Some c.args.founders else None) before after fault) options.ensures.lose
          (subst (λ f. Unresumed options.result.lose (if s.founded then Some f else None) before after fault) options.ensures.founders (IfErr-at_err _ w.in-Err-ended.is c.resume-file.ensures.unserved)) in
          let announced = c.resume-file.ensures.told (subst (λ r. IsErr r) (sym w.in-Err-ended.is) refl) in
          let ends = stood E-taken E-failures s c.args.founders w.unresumed-ending.result before after old behind w.unresumed-ending.new.errors fault c.in-Ok.port stays announced w.unresumed-ending.ensures in
          subst (λ e. KeepsTo E-taken E-failures s c.args.founders e before after old c.match-ended-2.errors) (sym w.ending-is)
          (subst (λ errors. KeepsTo E-taken E-failures s c.args.founders w.unresumed-ending.result before after old errors) (sym w.errors-is) ends)
    ]
