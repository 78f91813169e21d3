use Rattle.std.proofs.lemmas.Grind.{common_steps, elements}
use Rattle.std.proofs.Common.{◌≡◌, ◌++◌, ◌∷◌, [], sym, ap, ◌∙◌, refl, subst, arith}
use Rattle.rambo_names.specs.Refusals.{IsRefusal}
use Rattle.rambo_names.proofs.Errors.{err_kept}
use Rattle.rambo_names.proofs.Sizes.{up_fits, back_fits}
use Rattle.rambo_run.specs.Runs.{run}
use Rattle.rambo_run.specs.Steps.{refusal, turn}
use Rattle.rambo_run.specs.Legal.{IsLegal}
use Rattle.rambo_world.specs.Worlds.{StepsFit}
use Rattle.rambo_run.proofs.GoingOn.{after-taken, after-refused}
use Rattle.rambo_run.proofs.Legal.{legal_longer, events_fit_run, marks_fit_run}
use Rattle.rambo_world.specs.Worlds.{WorldOf, state}
use Rattle.rambo_world.proofs.Longer.{kept_run}
use Rattle.rambo_world.proofs.Single.{told_done, told_refused}
use Rattle.rambo_world.proofs.world.World.step.Goals as goal

pub judge-requires : goal.judge-requires
judge-requires g c = back_fits _ _ _ (up_fits _ _ _ c.requires-raw.1.1)

pub take-requires : goal.take-requires
take-requires g c = (back_fits _ _ _ (up_fits _ _ _ c.requires-raw.1.1), subst (StepsFit g.Q.Quorums.system) (sym c.self.invariant.0) (events_fit_run g.Q.Quorums.system c.self.inside.founders c.self.inside.steps.items, marks_fit_run g.Q.Quorums.system c.self.inside.founders c.self.inside.steps.items))

pub invariant_of-self : goal.invariant_of-self
invariant_of-self g c =
    let s = g.Q.Quorums.system in
    subst (λ steps. (c.self.inside.state ≡ run s c.self.inside.founders steps) × IsLegal s c.self.inside.founders steps) (sym c.reserve.ensures.items) c.self.invariant

pub invariant_of-self-then-is_err : goal.invariant_of-self-then-is_err
invariant_of-self-then-is_err g c =
    let s = g.Q.Quorums.system in
    subst (λ steps. (c.self.inside.state ≡ run s c.self.inside.founders steps) × IsLegal s c.self.inside.founders steps) (sym c.reserve.ensures.items) c.self.invariant

pub invariant_of-self-in_err-take : goal.invariant_of-self-in_err-take
invariant_of-self-in_err-take g c =
    let s = g.Q.Quorums.system in
    subst (λ steps. (c.take.new.self ≡ run s c.self.inside.founders steps) × IsLegal s c.self.inside.founders steps) (sym c.reserve.ensures.items) (c.in_err-take.ensures.err ∙ c.self.invariant.0, c.self.invariant.1)

pub invariant_of-self-in_err-effect : goal.invariant_of-self-in_err-effect
invariant_of-self-in_err-effect g c =
    let s = g.Q.Quorums.system in
    let w = c.self.inside.state in
    let refused = told_refused (refusal s w c.args.step) w c.args.step c.in_err-effect.field-0.0 (sym c.in_err-effect.was ∙ c.in_ok-take.ensures.told) in
    let same = c.in_ok-take.ensures.after ∙ after-refused s w c.args.step c.in_err-effect.field-0.0 refused in
    subst (λ steps. (c.take.new.self ≡ run s c.self.inside.founders steps) × IsLegal s c.self.inside.founders steps) (sym c.reserve.ensures.items) (same ∙ c.self.invariant.0, c.self.invariant.1)

pub returns-in_err-effect-clause-refused : goal.returns-in_err-effect-clause-refused
returns-in_err-effect-clause-refused g c =
    let s = g.Q.Quorums.system in
    let w = c.self.inside.state in
    let here = ap (λ (v : WorldOf _). refusal s (state s v) c.args.step) (sym c.self.view_is) ∙ ap (λ w. refusal s w c.args.step) (sym c.self.invariant.0) in
    let refused = told_refused (refusal s w c.args.step) w c.args.step c.in_err-effect.field-0.0 (sym c.in_err-effect.was ∙ c.in_ok-take.ensures.told) in
    err_kept c.from_residual-in_err-effect.result _ _ c.from_residual-in_err-effect.ensures.1 (subst (λ o. IsRefusal o c.in_err-effect.field-0.0) (sym (here ∙ refused)) refl)

pub invariant_of-self-2 : goal.invariant_of-self-2
invariant_of-self-2 g c =
    let s = g.Q.Quorums.system in
    let founders = c.self.inside.founders in
    let old = c.self.inside.steps.items in
    let w = c.self.inside.state in
    let steps = c.push_reserved.ensures.items ∙ ap (λ z. z ++ c.args.step ∷ []) c.reserve.ensures.items in
    let done = told_done (refusal s w c.args.step) w c.args.step c.in_ok-effect.effect (sym c.in_ok-effect.was ∙ c.in_ok-take.ensures.told) in
    let world = c.in_ok-take.ensures.after ∙ after-taken s w c.args.step done.0 in (
      kept_run s founders old c.args.step w c.take.new.self c.in_ok-effect.effect c.push_reserved.new.self.items c.self.invariant.0 done.0 (λ i. record { world = sym world i; effect = done.1 i }) steps,
      legal_longer s founders old c.args.step w c.push_reserved.new.self.items c.self.invariant.0 c.self.invariant.1 done.0 steps,
    )

pub returns-clause-judged : goal.returns-clause-judged
returns-clause-judged g c =
    let s = g.Q.Quorums.system in
    let w = c.self.inside.state in
    ap (λ (v : WorldOf _). refusal s (state s v) c.args.step) (sym c.self.view_is) ∙ ap (λ w. refusal s w c.args.step) (sym c.self.invariant.0)
    ∙ (told_done (refusal s w c.args.step) w c.args.step c.in_ok-effect.effect (sym c.in_ok-effect.was ∙ c.in_ok-take.ensures.told)).0

pub returns-clause-effect : goal.returns-clause-effect
returns-clause-effect g c =
    let s = g.Q.Quorums.system in
    let w = c.self.inside.state in
    sym (told_done (refusal s w c.args.step) w c.args.step c.in_ok-effect.effect (sym c.in_ok-effect.was ∙ c.in_ok-take.ensures.told)).1
    ∙ ap (λ w. (turn w c.args.step).effect) c.self.invariant.0 ∙ ap (λ (v : WorldOf _). (turn (state s v) c.args.step).effect) c.self.view_is

pub drop-requires : goal.drop-requires
drop-requires g c = tt

pub drop-step-requires : goal.drop-step-requires
drop-step-requires g c = tt

pub returns-clause-ok : goal.returns-clause-ok
returns-clause-ok g c = grind (arith, common_steps)

pub returns-then-is_err-clause-refused : goal.returns-then-is_err-clause-refused
returns-then-is_err-clause-refused g c = grind (arith, common_steps)

pub returns-then-is_err-clause-err : goal.returns-then-is_err-clause-err
returns-then-is_err-clause-err g c = grind (arith, common_steps)

pub returns-in_err-take-clause-err : goal.returns-in_err-take-clause-err
returns-in_err-take-clause-err g c = grind (arith, elements)

pub returns-in_err-take-clause-ok : goal.returns-in_err-take-clause-ok
returns-in_err-take-clause-ok g c = grind (arith, elements)
