use Rattle.std.proofs.Common.{◌≡◌, refl, sym, ap, ◌∙◌, subst, inl, inr, arith}
use Rattle.std.proofs.lemmas.Bool.{cases_eq}
use Rattle.std.specs.Bool.{MatchBool}
use Rattle.std.specs.FinSet as set
use Rattle.std.specs.FinSet.{contains-empty}
use Rattle.std.specs.Ordering.{nat_cmp}
use Rattle.rambo_run.specs.Runs.{run}
use Rattle.rambo_pass.specs.Passes.{HasStopped, IsGoing}
use Rattle.rambo_recovery.proofs.recovery.Recovery.stopped.Goals as goal

pub unreachable-requires : goal.unreachable-requires
unreachable-requires g c = c.in_default.ensures.refused.1 (omega (arith, c.loop-number.auto.number), omega (arith, c.loop-number-test.true))

pub loop-number-init : goal.loop-number-init
loop-number-init g c = record {
  same = refl;
  known = λ f founded name is below. absurd (omega (arith, is.0, below));
  above = λ name past. ap (λ s. set.contains s name) c.empty-stopped.ensures ∙ contains-empty nat_cmp name;
}

pub loop-number-preserved : goal.loop-number-preserved
loop-number-preserved g c =
    let s = g.Q.Quorums.system in
    let i = c.loop-number.invariant in
    let own : c.in-Ok.name ≡ c.loop-number.number = c.in-Ok.ensures.made.0 in
    let after = c.with_if-stopped.result in
    record {
      same = c.has_stopped-has_stopped.ensures.same ∙ i.same;
      known = λ f founded name is below.
          let w = run s f c.args.self.now in
          elim (cases_eq name c.loop-number.number) [
            | inl same ↦ (
                let at : name ≡ c.in-Ok.name = same ∙ sym own in
                let here : set.contains after c.in-Ok.name ≡ c.has_stopped-has_stopped.result = c.with_if-stopped.ensures.own (i.above c.in-Ok.name (omega (arith, own))) in
                subst (λ n. MatchBool (set.contains after n) (HasStopped w n) (IsGoing w n)) (sym at)
                (subst (λ b. MatchBool b (HasStopped w c.in-Ok.name) (IsGoing w c.in-Ok.name)) (sym here)
                (subst (λ l. MatchBool c.has_stopped-has_stopped.result (HasStopped (run s f l) c.in-Ok.name) (IsGoing (run s f l) c.in-Ok.name)) i.same (c.has_stopped-has_stopped.ensures.stopped f founded))))
            | inr other ↦
                subst (λ b. MatchBool b (HasStopped w name) (IsGoing w name)) (sym (c.with_if-stopped.ensures.other name (λ e. other (e ∙ own))))
                (i.known f founded name is (omega (arith, below, other)))
          ];
      above = λ name past. c.with_if-stopped.ensures.other name (λ e. absurd (omega (arith, e, own, past))) ∙ i.above name (omega (arith, past));
    }

pub returns-clause-stopped : goal.returns-clause-stopped
returns-clause-stopped g c = λ f founded name is. c.loop-number.invariant.known f founded name is (omega (arith, is.1, c.loop-number-test.false))
