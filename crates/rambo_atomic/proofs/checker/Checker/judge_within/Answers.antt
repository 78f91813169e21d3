use Rattle.std.proofs.Common.{◌-◌, sym, ap, subst, ◌∙◌, true≢false, arith}
use Rattle.rambo_atomic.specs.declared.verdict.Rule.TheVariants as rule
use Rattle.rambo_atomic.specs.declared.verdict.Verdict.TheVariants as verdict
use Rattle.rambo_atomic.specs.Scopes.{within, IsCompleteIn, IsVerdictIn}
use Rattle.rambo_atomic.specs.Tallies.{how_many}
use Rattle.rambo_atomic.specs.Tests.{is_due}
use Rattle.rambo_atomic.proofs.Decided.{complete-to, complete-from, distinct-to, distinct-from, stranger-to, stranger-from, all_told-to, all_told-from, proper-in}
use Rattle.rambo_atomic.proofs.RealTime.{real_time-to, real_time-from}
use Rattle.rambo_atomic.proofs.Tallied.{complete-by-count, missing-by-count}
use Rattle.rambo_atomic.proofs.checker.Checker.judge_within.Goals as goal

pub returns-then-findings-repeats-clause-verdict : goal.returns-then-findings-repeats-clause-verdict
returns-then-findings-repeats-clause-verdict c all =
    let h = c.self.inside.history.now.events in
    missing-by-count h (within c.args.scope) c.args.order.now (c.in_ok-findings.findings.answered - c.in_ok-repeats.repeats.answered) c.due.result
    (omega (arith, c.in_ok-findings.ensures.answered, c.in_ok-repeats.ensures.answered))
    (c.due.ensures ∙ ap (λ h. how_many (is_due h (within c.args.scope)) h) (sym c.self.view_is)) c.if-findings-repeats.true
    (complete-from c.args.scope h c.args.order.now c.self.invariant.1.calls_once (subst (λ v. IsCompleteIn c.args.scope v c.args.order.now) (sym c.self.view_is) all))

pub returns-then-not-repeats-clause-verdict : goal.returns-then-not-repeats-clause-verdict
returns-then-not-repeats-clause-verdict c =
    let h = c.self.inside.history.now.events in
    let s = c.args.scope in
    let order = c.args.order.now in
    subst (λ v. IsVerdictIn s v order (verdict.No rule.Repeated)) c.self.view_is (
      (complete-to s h order c.self.invariant.1
          (complete-by-count h (within s) order (c.in_ok-findings.findings.answered - c.in_ok-repeats.repeats.answered) c.due.result
          (omega (arith, c.in_ok-findings.ensures.answered, c.in_ok-repeats.ensures.answered))
          (c.due.ensures ∙ ap (λ h. how_many (is_due h (within s)) h) (sym c.self.view_is)) c.if-findings-repeats.false)),
      λ all. true≢false (sym (c.in_ok-repeats.ensures.distinct ∙ distinct-from order all) ∙ c.if-not-repeats.true),
    )

pub returns-then-not-findings-clause-verdict : goal.returns-then-not-findings-clause-verdict
returns-then-not-findings-clause-verdict c =
    let h = c.self.inside.history.now.events in
    let s = c.args.scope in
    let order = c.args.order.now in
    subst (λ v. IsVerdictIn s v order (verdict.No rule.Stranger)) c.self.view_is (
      (complete-to s h order c.self.invariant.1
          (complete-by-count h (within s) order (c.in_ok-findings.findings.answered - c.in_ok-repeats.repeats.answered) c.due.result
          (omega (arith, c.in_ok-findings.ensures.answered, c.in_ok-repeats.ensures.answered))
          (c.due.ensures ∙ ap (λ h. how_many (is_due h (within s)) h) (sym c.self.view_is)) c.if-findings-repeats.false)),
      (distinct-to order (sym c.in_ok-repeats.ensures.distinct ∙ c.if-not-repeats.false)),
      λ all. true≢false (sym (c.in_ok-findings.ensures.no_stranger ∙ stranger-from s h order all) ∙ c.if-not-findings.true),
    )

pub returns-then-not-findings-2-clause-verdict : goal.returns-then-not-findings-2-clause-verdict
returns-then-not-findings-2-clause-verdict c =
    let h = c.self.inside.history.now.events in
    let s = c.args.scope in
    let order = c.args.order.now in
    subst (λ v. IsVerdictIn s v order (verdict.No rule.WrongAnswer)) c.self.view_is (
      (complete-to s h order c.self.invariant.1
          (complete-by-count h (within s) order (c.in_ok-findings.findings.answered - c.in_ok-repeats.repeats.answered) c.due.result
          (omega (arith, c.in_ok-findings.ensures.answered, c.in_ok-repeats.ensures.answered))
          (c.due.ensures ∙ ap (λ h. how_many (is_due h (within s)) h) (sym c.self.view_is)) c.if-findings-repeats.false)),
      (distinct-to order (sym c.in_ok-repeats.ensures.distinct ∙ c.if-not-repeats.false)),
      (stranger-to s h order (sym c.in_ok-findings.ensures.no_stranger ∙ c.if-not-findings.false)),
      λ all. true≢false (sym (c.in_ok-findings.ensures.latest c.if-not-findings.false ∙ all_told-from h order all) ∙ c.if-not-findings-2.true),
    )

pub returns-then-not-findings-3-clause-verdict : goal.returns-then-not-findings-3-clause-verdict
returns-then-not-findings-3-clause-verdict c =
    let h = c.self.inside.history.now.events in
    let s = c.args.scope in
    let order = c.args.order.now in
    subst (λ v. IsVerdictIn s v order (verdict.No rule.OutOfOrder)) c.self.view_is (
      (complete-to s h order c.self.invariant.1
          (complete-by-count h (within s) order (c.in_ok-findings.findings.answered - c.in_ok-repeats.repeats.answered) c.due.result
          (omega (arith, c.in_ok-findings.ensures.answered, c.in_ok-repeats.ensures.answered))
          (c.due.ensures ∙ ap (λ h. how_many (is_due h (within s)) h) (sym c.self.view_is)) c.if-findings-repeats.false)),
      (distinct-to order (sym c.in_ok-repeats.ensures.distinct ∙ c.if-not-repeats.false)),
      (stranger-to s h order (sym c.in_ok-findings.ensures.no_stranger ∙ c.if-not-findings.false)),
      (all_told-to h order (sym (c.in_ok-findings.ensures.latest c.if-not-findings.false) ∙ c.if-not-findings-2.false)),
      λ all. true≢false (sym (c.in_ok-findings.ensures.real_time ∙ real_time-from h c.self.invariant.1.calls_once order all) ∙ c.if-not-findings-3.true),
    )

pub returns-else-not-findings-3-clause-verdict : goal.returns-else-not-findings-3-clause-verdict
returns-else-not-findings-3-clause-verdict c =
    let h = c.self.inside.history.now.events in
    let s = c.args.scope in
    let order = c.args.order.now in
    subst (λ v. IsVerdictIn s v order verdict.Yes) c.self.view_is (proper-in s h order
    (complete-to s h order c.self.invariant.1
    (complete-by-count h (within s) order (c.in_ok-findings.findings.answered - c.in_ok-repeats.repeats.answered) c.due.result
    (omega (arith, c.in_ok-findings.ensures.answered, c.in_ok-repeats.ensures.answered))
    (c.due.ensures ∙ ap (λ h. how_many (is_due h (within s)) h) (sym c.self.view_is)) c.if-findings-repeats.false))
    (distinct-to order (sym c.in_ok-repeats.ensures.distinct ∙ c.if-not-repeats.false))
    (stranger-to s h order (sym c.in_ok-findings.ensures.no_stranger ∙ c.if-not-findings.false))
    (all_told-to h order (sym (c.in_ok-findings.ensures.latest c.if-not-findings.false) ∙ c.if-not-findings-2.false))
    (real_time-to h c.self.invariant.1.calls_once order (sym c.in_ok-findings.ensures.real_time ∙ c.if-not-findings-3.false)))
