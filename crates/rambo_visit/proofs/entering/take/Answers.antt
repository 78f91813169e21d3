use Rattle.std.proofs.Common.{◌≡◌, subst}
use Rattle.rambo_visit.specs.Happened.{Happened, IsLast}
use Rattle.rambo_run.specs.Runs.{run}
use Rattle.rambo_run.specs.Steps.{refusal}
use Rattle.rambo_visit.proofs.Visits.{own_name, no_delivery, nothing_so, refused_so}
use Rattle.rambo_visit.proofs.entering.take.Goals as goal

pub ready-requires : goal.ready-requires
ready-requires g c =
    let name = c.args.keeper.now.name in
    (c.requires-raw.1.1.1.1.0, (λ f e m is. own_name c.args.step name m c.requires is, λ number e. no_delivery c.args.step name number c.requires e))

pub returns-in_ok-enter-in-Ok-clause-did : goal.returns-in_ok-enter-in-Ok-clause-did
returns-in_ok-enter-in-Ok-clause-did g c = λ f is.
    subst (λ st. Happened g.Q.Quorums.system f g.J.Terms.capacity (IsLast g.Q.Quorums.system f st c.in_ok-enter-in-Ok.field-0)) c.in-Ok.ensures.step (c.in_ok-enter-in-Ok.ensures.did f is)

pub returns-in-Err-clause-did : goal.returns-in-Err-clause-did
returns-in-Err-clause-did g c = λ f is.
    nothing_so (λ e. Happened g.Q.Quorums.system f g.J.Terms.capacity (IsLast g.Q.Quorums.system f c.args.step e)) c.unmade.result c.unmade.ensures.nothing

pub returns-in-Err-clause-refused : goal.returns-in-Err-clause-refused
returns-in-Err-clause-refused g c = λ f is.
    let s = g.Q.Quorums.system in
    let k = c.args.keeper.now in
    refused_so (c.ready.new.keeper ≡ record k { room = c.ready.new.keeper.room }) c.unmade.result (refusal s (run s f k.seen) c.args.step) c.in-Err.cause c.unmade.ensures.refused (c.in-Err.ensures.refused f is) c.in-Err.ensures.same
