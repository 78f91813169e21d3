use Rattle.std.proofs.Common.{◌≡◌, ◌+◌, length, refl, sym, ap, subst, ◌∙◌, inl, inr, arith}
use Rattle.std.proofs.lemmas.Grind.{common_steps}
use Rattle.rambo_names.proofs.Errors.{err_kept}
use Rattle.rambo_atomic.specs.Unreads.{UnreadState}
use Rattle.rambo_text.specs.Words.{Lacks}
use Rattle.rambo_retrace.specs.Retraces.{TakesFirst}
use Rattle.rambo_retrace.proofs.StepByStep.{counts_none, counts_more, counts_next, few, told}
use Rattle.rambo_retrace.proofs.Stopping.{Stops, stream_stops, first_stops, still, holds_line, all_done, some_taken, none_taken, torn_ends}
use Rattle.rambo_retrace.proofs.retracing.retrace.Goals as goal

pub loop-unread-init : goal.loop-unread-init
loop-unread-init g c = record { counts = counts_none _ _ _; knows = c.requires; few = omega (arith); fine = refl }

pub loop-unread-preserved : goal.loop-unread-preserved
loop-unread-preserved g c =
    let found = c.in_ok-find_line.ensures in
    let old = g.T.Taker.steps c.loop-unread.taker in
    let new = g.T.Taker.steps c.take_first.new.taker in
    let now = counts_more _ _ _ _ _ _ _ _ _ _ c.loop-unread.invariant.counts found.bytes in
    let lines = c.as_slice.result.now in
    let takes = subst (λ h. TakesFirst h c.in-Some.used old new) c.as_slice.ensures.held (some_taken c.in_ok-used.field-0 c.in-Some.used (Lacks 10 lines × (new ≡ old)) (λ used. TakesFirst lines used old new) c.in-Some.is c.in_ok-used.ensures.taken) in
    let less = few _ _ _ _ _ _ _ _ c.loop-unread.invariant.counts in
    record {
      counts = counts_next _ _ _ _ _ _ _ _ _ _ _ _ _ now takes (ap (λ (u : UnreadState). u.held) c.forget.ensures) refl refl;
      knows = λ e. found.knows (sym (ap (λ (u : UnreadState). u.ended) c.forget.ensures) ∙ e);
      few = grind (arith, common_steps, less, c.if-bytes-ge-BYTE_LIMIT.false);
      fine = found.fine ∙ c.loop-unread.invariant.fine;
    }

pub returns-in_err-find_line-clause-err : goal.returns-in_err-find_line-clause-err
returns-in_err-find_line-clause-err g c =
    let found = c.in_err-find_line.ensures in
    let now = counts_more _ _ _ _ _ _ _ _ _ _ c.loop-unread.invariant.counts found.bytes in
    let steps = g.T.Taker.steps in
    let left = g.S.Source.left in
    err_kept c.from_residual.result
    (Stops steps g.T.Taker.refuses (steps c.args.taker.now) (steps c.loop-unread.taker) (left c.args.reader.now) (left c.find_line.new.reader) c.args.unread.now.held c.find_line.new.self.held)
    _ c.from_residual.ensures.1 (now.on, stream_stops _ _ _ _ _ _ found.fault)

pub returns-then-bytes-ge-BYTE_LIMIT-clause-err : goal.returns-then-bytes-ge-BYTE_LIMIT-clause-err
returns-then-bytes-ge-BYTE_LIMIT-clause-err g c =
    let now = counts_more _ _ _ _ _ _ _ _ _ _ c.loop-unread.invariant.counts c.in_ok-find_line.ensures.bytes in
    (now.on, inr (inl refl))

pub overflow_add-steps : goal.overflow_add-steps
overflow_add-steps g c =
    let less = few _ _ _ _ _ _ _ _ c.loop-unread.invariant.counts in
    grind (arith, common_steps, less, c.if-bytes-ge-BYTE_LIMIT.false)

pub returns-in_err-used-clause-err : goal.returns-in_err-used-clause-err
returns-in_err-used-clause-err g c =
    let steps = g.T.Taker.steps in
    let left = g.S.Source.left in
    let now = counts_more _ _ _ _ _ _ _ _ _ _ c.loop-unread.invariant.counts c.in_ok-find_line.ensures.bytes in
    let kept = c.in_err-used.ensures.kept in
    let new = steps c.take_first.new.taker in
    let held = c.find_line.new.self.held in
    let stops = first_stops steps g.T.Taker.refuses c.loop-unread.taker new _ _ _ held _ (sym kept) (ap (λ k. k + 3) now.steps_are) c.as_slice.ensures.held c.in_err-used.ensures.fault in
    err_kept c.from_residual-in_err-used.result
    (Stops steps g.T.Taker.refuses (steps c.args.taker.now) new (left c.args.reader.now) (left c.find_line.new.reader) c.args.unread.now.held held)
    _ c.from_residual-in_err-used.ensures.1 (still _ _ _ _ _ _ _ now.on kept, stops)

pub returns-in_default-clause-ok : goal.returns-in_default-clause-ok
returns-in_default-clause-ok g c =
    let now = counts_more _ _ _ _ _ _ _ _ _ _ c.loop-unread.invariant.counts c.in_ok-find_line.ensures.bytes in
    let old = g.T.Taker.steps c.loop-unread.taker in
    let new = g.T.Taker.steps c.take_first.new.taker in
    let lines = c.as_slice.result.now in
    let none = none_taken c.in_ok-used.field-0 (Lacks 10 lines × (new ≡ old)) (λ used. TakesFirst lines used old new) c.in_default.is c.in_ok-used.ensures.taken in
    (still _ _ _ _ _ _ _ now.on none.1, told _ _ _ _ _ _ _ _ _ now (ap length c.as_slice-in_default.ensures.held))

pub returns-in_default-clause-end : goal.returns-in_default-clause-end
returns-in_default-clause-end g c =
    let found = c.in_ok-find_line.ensures in
    let old = g.T.Taker.steps c.loop-unread.taker in
    let new = g.T.Taker.steps c.take_first.new.taker in
    let lines = c.as_slice.result.now in
    let none = none_taken c.in_ok-used.field-0 (Lacks 10 lines × (new ≡ old)) (λ used. TakesFirst lines used old new) c.in_default.is c.in_ok-used.ensures.taken in
    torn_ends _ _ _ (holds_line _ _ c.if-branch.true found.line) found.knows c.as_slice.ensures.held none.0

pub overflow_add-steps-in-loop-unread : goal.overflow_add-steps-in-loop-unread
overflow_add-steps-in-loop-unread g c =
    let less = few _ _ _ _ _ _ _ _ c.loop-unread.invariant.counts in
    grind (arith, common_steps, less, c.if-bytes-ge-BYTE_LIMIT.false)

pub returns-clause-ok : goal.returns-clause-ok
returns-clause-ok g c =
    let found = c.in_ok-find_line.ensures in
    let now = counts_more _ _ _ _ _ _ _ _ _ _ c.loop-unread.invariant.counts found.bytes in
    let done = all_done _ _ c.if-branch.false found.line in
    (now.on, told _ _ _ _ _ _ _ _ _ now (sym (ap length done.0)))
