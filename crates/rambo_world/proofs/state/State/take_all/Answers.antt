use Rattle.std.proofs.lemmas.Grind.{common_steps}
use Rattle.std.proofs.Common.{◌∙◌, take, sym, ap, subst, arith}
use Rattle.std.proofs.lemmas.List.{take_all}
use Rattle.rambo_run.specs.Runs.{results_from, run_from}
use Rattle.rambo_world.specs.Worlds.{StepsFit}
use Rattle.rambo_run.proofs.Runs.{run_from-none}
use Rattle.rambo_world.proofs.Longer.{results_from-none, next_state, next_results}
use Rattle.rambo_world.proofs.state.State.take_all.Goals as goal

pub loop-step-init : goal.loop-step-init
loop-step-init g c = (c.in_ok-reserve.ensures.items ∙ c.new-results.ensures.items ∙ sym (results_from-none g.Q.Quorums.system c.args.self.now), c.reserve-2.ensures.same ∙ sym (run_from-none g.Q.Quorums.system c.args.self.now))

pub take-requires : goal.take-requires
take-requires g c = (c.requires-raw.1.1.0, subst (StepsFit g.Q.Quorums.system) (sym c.loop-step.invariant.1) (c.requires.fits (take c.loop-step.step-index c.args.steps.now)))

pub loop-step-preserved : goal.loop-step-preserved
loop-step-preserved g c =
    let s = g.Q.Quorums.system in
    let steps = c.args.steps.now in
    let i = c.loop-step.step-index in (
      next_results s c.args.self.now steps i c.step-item.result c.loop-step-test.true c.step-item.is _ c.loop-step.invariant.1 _ _ c.in_ok-result.result c.loop-step.invariant.0 c.in_ok-result.ensures.told c.in_ok-push.ensures.items,
      next_state s c.args.self.now steps i c.step-item.result c.loop-step-test.true c.step-item.is _ c.loop-step.invariant.1 _ c.in_ok-result.ensures.after,
    )

pub returns-clause-told : goal.returns-clause-told
returns-clause-told g c = c.loop-step.invariant.0 ∙ ap (results_from g.Q.Quorums.system c.args.self.now) (take_all c.loop-step.step-index c.args.steps.now c.loop-step-test.false)

pub returns-clause-after : goal.returns-clause-after
returns-clause-after g c = c.loop-step.invariant.1 ∙ ap (run_from g.Q.Quorums.system c.args.self.now) (take_all c.loop-step.step-index c.args.steps.now c.loop-step-test.false)

pub reserve-requires-2 : goal.reserve-requires-2
reserve-requires-2 g c = assumption

pub returns-in_err-reserve-2-clause-told : goal.returns-in_err-reserve-2-clause-told
returns-in_err-reserve-2-clause-told g c = grind (arith, common_steps)

pub returns-in_err-push-clause-after : goal.returns-in_err-push-clause-after
returns-in_err-push-clause-after g c = grind (arith, common_steps)

pub returns-in_err-reserve-2-clause-refused : goal.returns-in_err-reserve-2-clause-refused
returns-in_err-reserve-2-clause-refused g c = grind (arith, common_steps)
