use Rattle.rambo_names.proofs.Errors.{err_kept}
use Rattle.rambo_retrace.specs.Retraces.{StopsAtFirst}
use Rattle.rambo_retrace.proofs.FirstSteps.{takes_front, refuses_front}
use Rattle.rambo_retrace.proofs.retracing.give_first.Goals as goal

pub returns-in_err-give-clause-fault : goal.returns-in_err-give-clause-fault
returns-in_err-give-clause-fault g c =
    let Refuses = g.T.Taker.refuses c.args.taker.now in
    let refused = refuses_front Refuses c.args.number c.args.lines.now _ c.args.step _ c.in_err-give.field-0.0 c.requires c.in-Some.ensures.found c.in_err-give.ensures.fault in
    err_kept c.from_residual.result (StopsAtFirst Refuses c.args.number c.args.lines.now) _ c.from_residual.ensures.1 refused

pub returns-clause-taken : goal.returns-clause-taken
returns-clause-taken g c = takes_front _ _ c.args.step _ _ _ c.requires c.in-Some.ensures.found c.in_ok-give.ensures.taken
