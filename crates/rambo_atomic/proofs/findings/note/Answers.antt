use Rattle.std.proofs.Common.{◌≡◌, Bool, true, false, not, ◌&&◌, ◌-◌, is_some, refl, sym, ap, ◌∙◌}
use Rattle.rambo_atomic.proofs.CalledFirst.{answered-behind}
use Rattle.rambo_atomic.proofs.Answered.{answered-placed}
use Rattle.rambo_history.specs.Histories.{is_before}
use Rattle.rambo_history.proofs.Pushes.{called_at-none, answered_at-none, unanswered}
use Rattle.rambo_atomic.specs.Findings.{is_from, past}
use Rattle.rambo_atomic.proofs.findings.note.Goals as goal

kept : (t : Bool) → t ≡ (t && true)
kept true = refl
kept false = refl

lost : (t : Bool) → false ≡ (t && false)
lost true = refl
lost false = refl

pub returns-in_default-clause-real_time : goal.returns-in_default-clause-real_time
returns-in_default-clause-real_time c =
    let f = c.args.findings.now in
    let h = c.args.history.now.events in
    let id = c.args.id.now in
    kept f.keeps_real_time
    ∙ ap (λ o. f.keeps_real_time && not (is_before (f.passed - 1) o))
    (sym (answered_at-none h id (unanswered h c.in_default.ensures.well_formed id (sym c.in_default.ensures.op))))

pub returns-in_default-clause-rising : goal.returns-in_default-clause-rising
returns-in_default-clause-rising c =
    let f = c.args.findings.now in
    lost f.is_rising
    ∙ ap (λ o. f.is_rising && is_from f.passed o) (sym (called_at-none c.args.history.now.events c.args.id.now (sym c.in_default.ensures.op)))

pub returns-in_default-clause-passed : goal.returns-in_default-clause-passed
returns-in_default-clause-passed c =
    ap (past c.args.findings.now.passed) (sym (called_at-none c.args.history.now.events c.args.id.now (sym c.in_default.ensures.op)))

pub note_kind-requires-clause-places : goal.note_kind-requires-clause-places
note_kind-requires-clause-places c =
    ap is_some c.in-Some.ensures.answered ∙ answered-placed c.args.history.now.events c.args.id.now ∙ sym (ap is_some c.in-Some.ensures.answer)

pub note_places-requires-clause-answered_behind : goal.note_places-requires-clause-answered_behind
note_places-requires-clause-answered_behind c late =
    let h = c.args.history.now.events in
    let id = c.args.id.now in
    let n = c.if-findings.findings.passed in
    ap (is_before (n - 1)) c.in-Some.ensures.answered
    ∙ answered-behind h c.in-Some.ensures.well_formed id n (ap (is_from n) c.in-Some.ensures.called ∙ late)
