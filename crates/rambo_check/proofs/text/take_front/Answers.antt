use Rattle.rambo_names.proofs.Errors.{err_kept}
use Rattle.rambo_check.proofs.Fronts.{takes_event, event_fault}
use Rattle.rambo_check.proofs.text.take_front.Goals as goal

pub returns-in_err-push-clause-fault : goal.returns-in_err-push-clause-fault
returns-in_err-push-clause-fault c =
    err_kept c.from_residual.result _ _ c.from_residual.ensures.1
    (event_fault c.args.version _ _ c.in-Some.event c.args.evidence.now c.in_err-push.field-0.0 c.in-Some.ensures c.in_err-push.ensures.fault)

pub returns-in-Some-clause-taken : goal.returns-in-Some-clause-taken
returns-in-Some-clause-taken c =
    takes_event c.args.version _ _ c.in-Some.event c.args.evidence.now c.push.new.self c.in-Some.ensures c.in_ok-push.ensures.fits c.in_ok-push.ensures.pushed
