use Rattle.std.proofs.Common.{◌≡◌, sym, ◌∙◌}
use Rattle.rambo_names.specs.declared.refusal.Refusal.TheVariants.{OutOfMemory}
use Rattle.rambo_node.specs.declared.step.StepOf.TheVariants as step
use Rattle.rambo_book.specs.Kept.{state}
use Rattle.rambo_names.proofs.Errors.{err_kept}
use Rattle.rambo_pass.proofs.Told.{call_called}
use Rattle.rambo_pass.proofs.pass.call_in.Goals as goal

pub returns-in_err-id-clause-memory : goal.returns-in_err-id-clause-memory
returns-in_err-id-clause-memory g c = err_kept c.from_residual.result (λ r. r ≡ OutOfMemory → c.act_ready_in.new.pass ≡ c.args.pass.now) _ c.from_residual.ensures.1 c.in_err-id.ensures.memory

pub unreachable-requires : goal.unreachable-requires
unreachable-requires g c =
    let e = c.in_ok-id.ensures in
    let op = c.requires.call.0 in
    let r = call_called g.Q.Quorums.system (state g.Q.Quorums.system c.args.book.now) c.args.name op (e.accepted (step.Call c.args.name op) c.requires.call.1) in
    c.in_default.not-Called r.0 (e.effect (step.Call c.args.name op) c.requires.call.1 ∙ r.1)

pub returns-in_err-id-clause-cause : goal.returns-in_err-id-clause-cause
returns-in_err-id-clause-cause g c = λ op half. err_kept c.from_residual.result _ _ c.from_residual.ensures.1 (c.in_err-id.ensures.cause (step.Call c.args.name op) half)

pub returns-clause-last : goal.returns-clause-last
returns-clause-last g c = λ op half. c.in_ok-id.ensures.last (step.Call c.args.name op) half

pub returns-clause-accepted : goal.returns-clause-accepted
returns-clause-accepted g c = λ op half. c.in_ok-id.ensures.accepted (step.Call c.args.name op) half

pub returns-clause-effect : goal.returns-clause-effect
returns-clause-effect g c = λ op half. sym c.in-Called.is ∙ c.in_ok-id.ensures.effect (step.Call c.args.name op) half
