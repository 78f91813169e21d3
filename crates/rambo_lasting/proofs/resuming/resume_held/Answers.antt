use Rattle.std.proofs.Common.{◌≡◌, true, inr, sym, ap, ◌∙◌, subst, true≢false}
use Rattle.std.proofs.lemmas.Result.{IfErr-weaker, IfOk-weaker}
use Rattle.std.specs.Prelude.{IfErr, if◌then◌else◌, Some, None}
use Rattle.rambo_scribe.specs.Traced.{Taken, taken_by}
use Rattle.rambo_names.specs.WeightLaws.{same_weights, same_weights-path}
use Rattle.rambo_atomic.specs.Unreads.{UnreadState}
use Rattle.rambo_retrace.specs.Retraces.{reads_failed}
use Rattle.rambo_lasting.specs.Resumings.{Announced, Unresumed}
use Rattle.rambo_lasting.proofs.Untaken.{from_start, head_why, others, read_first}
use Rattle.rambo_lasting.proofs.GoingOn.{asked_so, goes_on_from, not_so, same_file}
use Rattle.rambo_lasting.proofs.resuming.resume_held.Goals.{else-asked-via-then-asked+else-ne, else-asked-via-else-asked}
use Rattle.rambo_lasting.proofs.resuming.resume_held.Goals as goal

pub returns-clause-served : goal.returns-clause-served
returns-clause-served g c =
    let taken = taken_by g.F.Sink.taken g.F.Sink.failures in
    let founders = c.in-Ok.found.founders in
    let wanted : c.args.asked ≡ true → c.args.options.now.founders ≡ founders = elim c.else-asked.branch [
      | else-asked-via-then-asked+else-ne w ↦ λ asked. sym (same_weights-path founders c.args.options.now.founders (not_so (same_weights founders c.args.options.now.founders) (sym w.ne.ensures ∙ w.if-ne.false)))
      | else-asked-via-else-asked w ↦ λ asked. absurd (true≢false (sym asked ∙ w.if-asked.false))
    ] in
    let same = same_file _ _ _ _ (sym c.requires.held) (c.in-Ok.ensures.fine ∙ c.in-Ok-true.ensures.fine ∙ ap g.F.Sink.failures c.new-reading.ensures) in
    IfOk-weaker c.go_on.result.ended _ _
    (λ fault on. inr (goes_on_from (taken c.args.file) _ (taken c.go_on.result.file) _ founders fault same (asked_so c.args.asked c.args.options.now.founders founders wanted) on.0, on.1))
    c.go_on.ensures.served

pub returns-in-Ok-false-clause-unserved : goal.returns-in-Ok-false-clause-unserved
returns-in-Ok-false-clause-unserved g c =
    let taken = taken_by g.F.Sink.taken g.F.Sink.failures in
    let asked = if c.args.asked then Some c.args.options.now.founders else None in
    let same = same_file _ _ _ _ (c.into_inner-file.ensures.held ∙ sym c.requires.held) (ap g.F.Sink.failures c.into_inner-file.ensures.same ∙ c.in-Ok-false.ensures.fine ∙ ap g.F.Sink.failures c.new-reading.ensures) in
    IfErr-weaker c.begin.result.ended _ _
    (λ f un. subst (λ (before : Taken). Unresumed c.args.options.now.lose asked before (taken c.begin.result.file) f) same (un c.args.options.now.lose asked)) c.begin.ensures.unserved

pub returns-in-Err-retrace_founders-clause-unserved : goal.returns-in-Err-retrace_founders-clause-unserved
returns-in-Err-retrace_founders-clause-unserved g c =
    let taken = taken_by g.F.Sink.taken g.F.Sink.failures in
    let asked = if c.args.asked then Some c.args.options.now.founders else None in
    let lose = c.args.options.now.lose in
    let given = c.given_up-in-Err-retrace_founders in
    let bad = c.in-Err-retrace_founders.fault in
    let told = c.in-Err-retrace_founders.ensures in
    let first = read_first (g.F.Sink.taken c.args.file) _ _ _ _ (ap g.F.Archive.left c.new-reading.ensures ∙ c.requires.unread) (ap (λ (u : UnreadState). u.held) c.new-unread.ensures) c.in-Ok-true.ensures.bytes in
    subst (λ e. IfErr e (Unresumed lose asked (taken c.args.file) (taken given.result.file))) (sym given.ensures.fault) (record {
      stays = given.ensures.file ∙ sym c.requires.held;
      failed = given.ensures.failures ∙ told.reads ∙ ap (reads_failed bad) (c.in-Ok-true.ensures.fine ∙ ap g.F.Sink.failures c.new-reading.ensures);
      why = head_why lose asked (g.F.Sink.taken c.args.file) _ _ _ _ bad first told.script told.whole told.unrefused;
    })

pub returns-then-ne-clause-unserved : goal.returns-then-ne-clause-unserved
returns-then-ne-clause-unserved g c =
    let taken = taken_by g.F.Sink.taken g.F.Sink.failures in
    let wanted = c.args.options.now.founders in
    let asked = if c.args.asked then Some wanted else None in
    let lose = c.args.options.now.lose in
    let given = c.given_up-then-ne in
    let founders = c.in-Ok.found.founders in
    let held = g.F.Sink.taken c.args.file in
    let first = read_first held _ _ _ _ (ap g.F.Archive.left c.new-reading.ensures ∙ c.requires.unread) (ap (λ (u : UnreadState). u.held) c.new-unread.ensures) c.in-Ok-true.ensures.bytes in
    subst (λ e. IfErr e (Unresumed lose asked (taken c.args.file) (taken given.result.file))) (sym given.ensures.fault) (record {
      stays = given.ensures.file ∙ sym c.requires.held;
      failed = given.ensures.failures ∙ c.in-Ok.ensures.fine ∙ c.in-Ok-true.ensures.fine ∙ ap g.F.Sink.failures c.new-reading.ensures;
      why = (
        wanted,
        founders,
        c.retrace_founders.new.unread.held,
        g.F.Archive.left c.retrace_founders.new.reader,
        ap (λ b. if b then Some wanted else None) c.if-asked.true,
        others founders wanted (sym c.ne.ensures ∙ c.if-ne.true),
        from_start held _ _ _ _ first c.in-Ok.ensures.head,
      );
    })

pub returns-clause-unserved : goal.returns-clause-unserved
returns-clause-unserved g c =
    let taken = taken_by g.F.Sink.taken g.F.Sink.failures in
    let asked = if c.args.asked then Some c.args.options.now.founders else None in
    let same = same_file _ _ _ _ (sym c.requires.held) (c.in-Ok.ensures.fine ∙ c.in-Ok-true.ensures.fine ∙ ap g.F.Sink.failures c.new-reading.ensures) in
    IfErr-weaker c.go_on.result.ended _ _
    (λ f un. subst (λ (before : Taken). Unresumed c.args.options.now.lose asked before (taken c.go_on.result.file) f) same (un asked)) c.go_on.ensures.unserved

pub returns-clause-told : goal.returns-clause-told
returns-clause-told g c = λ bad.
    subst (λ held. Announced g.E.Sink.taken g.E.Sink.failures held c.args.port c.args.errors.now c.go_on.new.errors) (sym c.requires.held) (c.go_on.ensures.told bad)
