use Rattle.std.proofs.Common.{◌≡◌, ◌∙◌, refl, sym, ap, subst}
use Rattle.rambo_node.specs.Steps.{Step}
use Rattle.rambo_node.specs.declared.step.StepOf.TheVariants as step
use Rattle.rambo_run.specs.Runs.{result_of}
use Rattle.rambo_run.specs.Steps.{refusal}
use Rattle.rambo_run.specs.Told.{advanced}
use Rattle.rambo_run.specs.Ongoing.{RunningOf, IsReached}
use Rattle.rambo_names.proofs.Sizes.{up_fits, back_fits}
use Rattle.rambo_world.proofs.Reached.{reached_fits, reached_next}
use Rattle.rambo_world.proofs.Single.{advanced_told}
use Rattle.rambo_world.proofs.Turns.{step_fits, step_told}
use Rattle.rambo_world.proofs.running.RunningRun.advance.Goals as goal
use Rattle.rambo_node.specs.Acts as act

pub advance-requires : goal.advance-requires
advance-requires g c =
    let fits = reached_fits g.Q.Quorums.system c.self.inside.founders c.self.inside.state c.self.invariant in (
      back_fits _ _ _ (up_fits _ _ _ c.requires-raw.1.1),
      (
        step_fits c.self.inside.state (step.Advance c.args.id) c.args.id.name (act.Advance c.args.id) refl g.Q.Quorums.system fits.0,
        step_told c.self.inside.state (step.Advance c.args.id) c.args.id.name (act.Advance c.args.id) refl g.Q.Quorums.system fits.1,
      ),
    )

pub invariant_of-self : goal.invariant_of-self
invariant_of-self g c = subst (IsReached g.Q.Quorums.system c.self.inside.founders) (sym c.in_err-advance.ensures.err) c.self.invariant

pub invariant_of-self-2 : goal.invariant_of-self-2
invariant_of-self-2 g c = reached_next g.Q.Quorums.system c.self.inside.founders c.self.inside.state c.advance.new.self (step.Advance c.args.id) c.self.invariant c.in_ok-advance.ensures.after

pub returns-clause-told : goal.returns-clause-told
returns-clause-told g c =
    let s = g.Q.Quorums.system in
    let st : Step g.row.Q.Denot = step.Advance c.args.id in
    subst (λ (v : RunningOf _). advanced c.args.id c.answer_got.result ≡ result_of (refusal s v.state st) v.state st) c.self.view_is
    (ap (advanced c.args.id) c.answer_got.ensures ∙ advanced_told s c.self.inside.state c.args.id c.in_ok-advance.field-0 c.in_ok-advance.ensures.told)
