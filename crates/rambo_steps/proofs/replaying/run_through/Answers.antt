use Rattle.std.proofs.Common.{refl, sym, subst, ◌∙◌}
use Rattle.std.specs.Bool.{MatchBool}
use Rattle.std.proofs.lemmas.Result.{IfOk-weaker}
use Rattle.rambo_atomic.specs.Unreads.{HoldsLine, IsDone}
use Rattle.rambo_steps.specs.Runs.{GivesUpBehind, IsOfWhole}
use Rattle.rambo_steps.proofs.Pieces.{runs_on_first, runs_on_more, runs_on_next, runs_on_end, runs_on_fault}
use Rattle.rambo_steps.proofs.replaying.run_through.Goals as goal

pub loop-notes-init : goal.loop-notes-init
loop-notes-init g c =
    let line = c.forget_line.ensures.line in
    let ended = c.forget_line.ensures.ended in
    record {
      on = runs_on_first _ _ _ _ _ _ _ _ c.requires.line line.1 ended c.requires.founded c.new-notes.ensures c.first-place.ensures;
      knows = λ e. c.requires.knows (sym ended ∙ e);
      fine = refl;
    }

pub returns-in-Err-clause-script : goal.returns-in-Err-clause-script
returns-in-Err-clause-script g c =
    let found = c.in_ok-find_line.ensures in
    let u = c.find_line.new.self in
    let now = runs_on_more _ _ _ _ (g.S.Source.left c.find_line.new.reader) _ c.loop-notes.unread u _ _ c.loop-notes.invariant.on found.bytes found.ended in
    let holds : HoldsLine u = subst (λ b. MatchBool b (HoldsLine u) (IsDone u)) c.if-branch.true found.line in
    λ fault is.
    subst (λ f. IsOfWhole (λ bytes. GivesUpBehind c.args.version bytes f) c.args.unread.now (g.S.Source.left c.args.reader.now)) (sym (c.told_at_end.ensures.kept fault is))
    (runs_on_fault _ _ _ _ _ u _ _ _ c.in-Err.fault now holds found.knows c.next-place.ensures c.in-Err.ensures.fault)

pub loop-notes-preserved : goal.loop-notes-preserved
loop-notes-preserved g c =
    let found = c.in_ok-find_line.ensures in
    let u = c.find_line.new.self in
    let now = runs_on_more _ _ _ _ (g.S.Source.left c.find_line.new.reader) _ c.loop-notes.unread u _ _ c.loop-notes.invariant.on found.bytes found.ended in
    let holds : HoldsLine u = subst (λ b. MatchBool b (HoldsLine u) (IsDone u)) c.if-branch.true found.line in
    let taken = c.in_default.ensures in
    record {
      on = runs_on_next _ _ _ _ _ _ u _ _ _ _ _ now holds c.next-place.ensures taken.taken taken.ended;
      knows = λ e. found.knows (sym taken.ended ∙ e);
      fine = found.fine ∙ c.loop-notes.invariant.fine;
    }

pub returns-clause-ok : goal.returns-clause-ok
returns-clause-ok g c =
    let found = c.in_ok-find_line.ensures in
    let u = c.find_line.new.self in
    let now = runs_on_more _ _ _ _ (g.S.Source.left c.find_line.new.reader) _ c.loop-notes.unread u _ _ c.loop-notes.invariant.on found.bytes found.ended in
    let done : IsDone u = subst (λ b. MatchBool b (HoldsLine u) (IsDone u)) c.if-branch.false found.line in
    IfOk-weaker c.told_of.result _ _ (λ told is. runs_on_end _ _ _ _ _ u _ _ told now done found.knows is) c.told_of.ensures.ok

pub returns-clause-room : goal.returns-clause-room
returns-clause-room g c = IfOk-weaker c.told_of.result _ _ (λ told is. is.room) c.told_of.ensures.ok
