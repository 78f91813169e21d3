use Rattle.std.proofs.Common.{sym, ◌∙◌, true≢false}
use Rattle.rambo_atomic.proofs.Decided.{complete-to, complete-from, distinct-to, distinct-from, stranger-to, stranger-from, all_told-to, all_told-from, proper-in}
use Rattle.rambo_atomic.proofs.RealTime.{real_time-to, real_time-from}
use Rattle.rambo_atomic.proofs.checking.check_within.Goals as goal

pub returns-then-not-is_complete : goal.returns-then-not-is_complete
returns-then-not-is_complete c all =
    true≢false (sym (complete-from c.args.scope c.args.history.now.events c.args.order.now c.is_complete.ensures.well_formed.calls_once all) ∙ sym c.is_complete.ensures.test ∙ c.if-not-is_complete.true)

pub returns-then-not-is_distinct : goal.returns-then-not-is_distinct
returns-then-not-is_distinct c = (
  complete-to c.args.scope c.args.history.now.events c.args.order.now c.is_complete.ensures.well_formed (sym c.is_complete.ensures.test ∙ c.if-not-is_complete.false),
  λ all. true≢false (sym (distinct-from c.args.order.now all) ∙ sym c.is_distinct.ensures ∙ c.if-not-is_distinct.true),
)

pub returns-then-not-has_no_stranger : goal.returns-then-not-has_no_stranger
returns-then-not-has_no_stranger c = (
  complete-to c.args.scope c.args.history.now.events c.args.order.now c.is_complete.ensures.well_formed (sym c.is_complete.ensures.test ∙ c.if-not-is_complete.false),
  distinct-to c.args.order.now (sym c.is_distinct.ensures ∙ c.if-not-is_distinct.false),
  λ all. true≢false (sym (stranger-from c.args.scope c.args.history.now.events c.args.order.now all) ∙ sym c.has_no_stranger.ensures ∙ c.if-not-has_no_stranger.true),
)

pub returns-then-not-answers_latest : goal.returns-then-not-answers_latest
returns-then-not-answers_latest c = (
  complete-to c.args.scope c.args.history.now.events c.args.order.now c.is_complete.ensures.well_formed (sym c.is_complete.ensures.test ∙ c.if-not-is_complete.false),
  distinct-to c.args.order.now (sym c.is_distinct.ensures ∙ c.if-not-is_distinct.false),
  stranger-to c.args.scope c.args.history.now.events c.args.order.now (sym c.has_no_stranger.ensures ∙ c.if-not-has_no_stranger.false),
  λ all. true≢false (sym (all_told-from c.args.history.now.events c.args.order.now all) ∙ sym c.answers_latest.ensures ∙ c.if-not-answers_latest.true),
)

pub returns-then-not-keeps_real_time : goal.returns-then-not-keeps_real_time
returns-then-not-keeps_real_time c = (
  complete-to c.args.scope c.args.history.now.events c.args.order.now c.is_complete.ensures.well_formed (sym c.is_complete.ensures.test ∙ c.if-not-is_complete.false),
  distinct-to c.args.order.now (sym c.is_distinct.ensures ∙ c.if-not-is_distinct.false),
  stranger-to c.args.scope c.args.history.now.events c.args.order.now (sym c.has_no_stranger.ensures ∙ c.if-not-has_no_stranger.false),
  all_told-to c.args.history.now.events c.args.order.now (sym c.answers_latest.ensures ∙ c.if-not-answers_latest.false),
  λ all. true≢false (sym (real_time-from c.args.history.now.events c.is_complete.ensures.well_formed.calls_once c.args.order.now all) ∙ sym c.keeps_real_time.ensures ∙ c.if-not-keeps_real_time.true),
)

pub returns-else-not-keeps_real_time : goal.returns-else-not-keeps_real_time
returns-else-not-keeps_real_time c =
    proper-in c.args.scope c.args.history.now.events c.args.order.now
    (complete-to c.args.scope c.args.history.now.events c.args.order.now c.is_complete.ensures.well_formed (sym c.is_complete.ensures.test ∙ c.if-not-is_complete.false))
    (distinct-to c.args.order.now (sym c.is_distinct.ensures ∙ c.if-not-is_distinct.false))
    (stranger-to c.args.scope c.args.history.now.events c.args.order.now (sym c.has_no_stranger.ensures ∙ c.if-not-has_no_stranger.false))
    (all_told-to c.args.history.now.events c.args.order.now (sym c.answers_latest.ensures ∙ c.if-not-answers_latest.false))
    (real_time-to c.args.history.now.events c.is_complete.ensures.well_formed.calls_once c.args.order.now (sym c.keeps_real_time.ensures ∙ c.if-not-keeps_real_time.false))
