use Rattle.rambo_node.specs.declared.step.StepOf.TheVariants as step
use Rattle.rambo_client.specs.Calls.{answered}
use Rattle.rambo_client.specs.Courses.{history_of, stepped}
use Rattle.rambo_client.proofs.Beginnings.{begins-itself, begins-stepped, ends_early}
use Rattle.rambo_direct.specs.Taken.{took_by}
use Rattle.rambo_direct.proofs.Directs.{took_advance, took_none}
use Rattle.rambo_direct.proofs.cluster.NodesClusterByLetters.go_on.Goals as goal

pub returns-in_err-advance : goal.returns-in_err-advance
returns-in_err-advance c = λ k took.
    ends_early c.from_residual.result _ (took_by c.advance.new.self) k (stepped k (step.Advance c.args.id.now)) (history_of k) (answered c.args.id.now) c.from_residual.ensures.1
    (took_none c.args.self.now.direct c.advance.new.self k k c.in_err-advance.ensures.err took (begins-itself k)) (begins-stepped k (step.Advance c.args.id.now))

pub returns : goal.returns
returns c = λ k took. took_advance c.args.self.now.direct c.advance.new.self c.args.id.now c.in_ok-advance.ensures.after k took c.in_ok-advance.field-0 c.in_ok-advance.ensures.told
