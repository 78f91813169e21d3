use Rattle.std.proofs.lemmas.Grind.{common_steps}
use Rattle.std.proofs.Common.{◌≡◌, ◌∙◌, IfOk, refl, sym, subst, arith}
use Rattle.rambo_node.specs.declared.step.StepOf.TheVariants as step
use Rattle.rambo_run.specs.Runs.{result_of}
use Rattle.rambo_run.specs.Steps.{letter_in, refusal}
use Rattle.rambo_node.proofs.QuietSteps.{quiet_means, quiet_else}
use Rattle.rambo_world.proofs.Quiet.{quiet_told, quiet_after}
use Rattle.rambo_world.proofs.Turns.{step_fits, step_told}
use Rattle.rambo_world.proofs.state.State.take.Goals as goal
use Rattle.rambo_node.specs.Acts as act

pub call_lent-requires : goal.call_lent-requires
call_lent-requires g c = (c.requires-raw.1.1.0, step_fits c.args.self.now (step.Call c.in-Call.name c.in-Call.op) c.in-Call.name (act.Call c.in-Call.op) refl g.Q.Quorums.system c.requires.fits.0)

pub advance-requires : goal.advance-requires
advance-requires g c = (
  c.requires-raw.1.1.0,
  (
    step_fits c.args.self.now (step.Advance c.in-Advance.id) c.in-Advance.id.name (act.Advance c.in-Advance.id) refl g.Q.Quorums.system c.requires.fits.0,
    step_told c.args.self.now (step.Advance c.in-Advance.id) c.in-Advance.id.name (act.Advance c.in-Advance.id) refl g.Q.Quorums.system c.requires.fits.1,
  ),
)

pub send-requires : goal.send-requires
send-requires g c = c.requires-raw.1.1.0

pub deliver-requires : goal.deliver-requires
deliver-requires g c = c.requires-raw.1.1.0

pub quiet-requires : goal.quiet-requires
quiet-requires g c = c.requires-raw.1.1.0

pub unreachable-requires : goal.unreachable-requires
unreachable-requires g c =
    quiet_else c.args.step.now (sym c.quiet_of.ensures ∙ c.in-None.is) c.in_default.not-Call c.in_default.not-Send c.in_default.not-Deliver c.in_default.not-Advance

pub returns-in-Advance-clause-told : goal.returns-in-Advance-clause-told
returns-in-Advance-clause-told g c =
    let s = g.Q.Quorums.system in
    subst (λ st. IfOk c.advance.result (λ r. r ≡ result_of (refusal s c.args.self.now st) c.args.self.now st)) (sym c.in-Advance.is) c.advance.ensures.told

pub returns-in-Some : goal.returns-in-Some
returns-in-Some g c =
    let s = g.Q.Quorums.system in
    let w = c.args.self.now in
    let st = c.args.step.now in
    let m = c.in-Some.meant in
    let means = quiet_means (letter_in w.letters st) st m (sym c.quiet_of.ensures ∙ c.in-Some.is) in
    record {
      told = quiet_told s w c.quiet.new.self st m.0 (act.Quietly m.1) means c.quiet.result c.quiet.ensures.ok c.quiet.ensures.accepted c.quiet.ensures.refused;
      after = quiet_after s w c.quiet.new.self st m.0 (act.Quietly m.1) means c.quiet.result c.quiet.ensures.ok c.quiet.ensures.accepted c.quiet.ensures.refused c.quiet.ensures.err;
      accepted = tt;
      err = tt;
      refused = tt;
    }

pub returns-in-Ok-2-clause-told : goal.returns-in-Ok-2-clause-told
returns-in-Ok-2-clause-told g c = grind (arith, common_steps)

pub returns-in-Ok-2-clause-after : goal.returns-in-Ok-2-clause-after
returns-in-Ok-2-clause-after g c = grind (arith, common_steps)

pub returns-in-Err-clause-after : goal.returns-in-Err-clause-after
returns-in-Err-clause-after g c = grind (arith, common_steps)

pub returns-in-Err-3-clause-told : goal.returns-in-Err-3-clause-told
returns-in-Err-3-clause-told g c = grind (arith, common_steps)

pub returns-in-Ok-3-clause-told : goal.returns-in-Ok-3-clause-told
returns-in-Ok-3-clause-told g c = grind (arith, common_steps)

pub returns-in-Ok-clause-after : goal.returns-in-Ok-clause-after
returns-in-Ok-clause-after g c = grind (arith, common_steps)

pub returns-in-Ok-clause-told : goal.returns-in-Ok-clause-told
returns-in-Ok-clause-told g c = grind (arith, common_steps)

pub returns-in-Advance-clause-after : goal.returns-in-Advance-clause-after
returns-in-Advance-clause-after g c = grind (arith, common_steps)

pub returns-in-Err-3-clause-after : goal.returns-in-Err-3-clause-after
returns-in-Err-3-clause-after g c = grind (arith, common_steps)

pub returns-in-Ok-3-clause-after : goal.returns-in-Ok-3-clause-after
returns-in-Ok-3-clause-after g c = grind (arith, common_steps)

pub returns-in-Advance-clause-accepted : goal.returns-in-Advance-clause-accepted
returns-in-Advance-clause-accepted g c = grind (arith, common_steps)

pub returns-in-Err-2-clause-told : goal.returns-in-Err-2-clause-told
returns-in-Err-2-clause-told g c = grind (arith, common_steps)

pub returns-in-Err-2-clause-after : goal.returns-in-Err-2-clause-after
returns-in-Err-2-clause-after g c = grind (arith, common_steps)

pub returns-in-Err-clause-told : goal.returns-in-Err-clause-told
returns-in-Err-clause-told g c = grind (arith, common_steps)
