use Rattle.std.proofs.Common.{◌≡◌, ap, inr, refl, sym, subst, ◌∙◌}
use mathlib.Core.List.{IsPrefix}
use Rattle.rambo_scribe.specs.Traced.{HasWritten, Taken, taken_by}
use Rattle.rambo_lasting.proofs.Untaken.{failed_so, served_so, uncut_why}
use Rattle.rambo_lasting.proofs.resuming.serve_recovered.Goals as goal

pub returns-in-Err-clause-unserved : goal.returns-in-Err-clause-unserved
returns-in-Err-clause-unserved g c = λ asked. record {
  stays = c.in-Err.ensures.stays;
  failed = c.in-Err.ensures.failed;
  why = uncut_why c.args.options.now.lose asked (g.F.Sink.taken c.args.file) c.args.founders c.args.recovery c.requires.held.0 c.args.read c.in-Err.fault c.requires.held.1 c.requires.held.2 c.in-Err.ensures.cause;
}

pub returns-in_default-recovered-clause-unserved : goal.returns-in_default-recovered-clause-unserved
returns-in_default-recovered-clause-unserved g c =
    let held = c.requires.held in
    let whole = c.in_default.ensures.whole c.args.founders c.args.recovery held.0 c.requires.head held.1 held.2.0 in
    λ asked. record { stays = inr (c.args.founders, c.args.recovery, held.0, held.2, whole); failed = c.in_default.ensures.fine; why = tt }

pub returns-clause-served : goal.returns-clause-served
returns-clause-served g c =
    let taken = taken_by g.F.Sink.taken g.F.Sink.failures in
    let held = c.requires.held in
    let founders = c.args.founders in
    let steps = c.args.recovery in
    let is_drawn : c.in-Ok.drawn ≡ steps = c.in-Ok.ensures.drawn ∙ c.stopped-stopped.ensures.same in
    served_so _ _ c.serve_post.result.ended c.resumed_by.result.ended c.resumed_by.ensures.ok c.resumed_by.ensures.err c.serve_post.ensures.written (λ fault served. (
      record {
        founders = founders;
        steps = steps;
        torn = held.0;
        all = served.0;
        asked_is = refl;
        held = held.2;
        longer = subst (λ l. IsPrefix l served.0) is_drawn served.2;
        legal = served.1;
        written = subst (λ (before : Taken). HasWritten before (taken c.resumed_by.result.file) founders served.0 fault) c.requires.before
            (subst (λ w. HasWritten g.J.Starts.before (taken w) founders served.0 fault) (sym c.resumed_by.ensures.file) served.3);
      },
      c.announce.ensures steps held.0 held.1,
    ))

pub returns-clause-unserved : goal.returns-clause-unserved
returns-clause-unserved g c =
    let held = c.requires.held in
    let whole = c.in_default.ensures.whole c.args.founders c.args.recovery held.0 c.requires.head held.1 held.2.0 in
    failed_so _ c.serve_post.result.ended c.resumed_by.result.ended c.resumed_by.ensures.ok c.resumed_by.ensures.err c.serve_post.ensures.unwritten (λ same f asked.
    let is = c.resumed_by.ensures.file ∙ same in
    record {
      stays = inr (c.args.founders, c.args.recovery, held.0, held.2, ap g.F.Sink.taken is ∙ whole);
      failed = ap g.F.Sink.failures is ∙ c.in_default.ensures.fine;
      why = tt;
    })

pub returns-clause-told : goal.returns-clause-told
returns-clause-told g c =
    let held = c.requires.held in
    λ bad. inr (inr (c.args.founders, c.args.recovery, held.0, held.2, c.announce.ensures c.args.recovery held.0 held.1))
