use Rattle.std.proofs.Common.{[], ◌∷◌}
use Rattle.rambo_history.specs.declared.event.Event.TheVariants as event
use Rattle.rambo_node.specs.declared.step.StepOf.TheVariants as step
use Rattle.rambo_client.specs.Courses.{history_of, stepped}
use Rattle.rambo_client.proofs.Beginnings.{begins-itself, begins-stepped, ends_early}
use Rattle.rambo_direct.specs.Taken.{took_by}
use Rattle.rambo_direct.proofs.Directs.{call_named, took_call, took_none}
use Rattle.rambo_direct.proofs.cluster.NodesClusterByLetters.ask.Goals as goal

pub returns-clause-named : goal.returns-clause-named
returns-clause-named c = call_named c.args.name c.in_ok-call.field-0 c.in_ok-call.ensures.named

pub returns-clause-steps : goal.returns-clause-steps
returns-clause-steps c = λ k took. took_call c.args.self.now.direct c.call.new.self c.args.name c.args.op c.in_ok-call.ensures.after k took c.in_ok-call.field-0 c.in_ok-call.ensures.told

pub returns-in_err-call-clause-steps : goal.returns-in_err-call-clause-steps
returns-in_err-call-clause-steps c = λ k took.
    ends_early c.from_residual.result _ (took_by c.call.new.self) k (stepped k (step.Call c.args.name c.args.op)) (history_of k) (λ id. event.Call id c.args.op ∷ []) c.from_residual.ensures.1
    (took_none c.args.self.now.direct c.call.new.self k k c.in_err-call.ensures.err took (begins-itself k)) (begins-stepped k (step.Call c.args.name c.args.op))
