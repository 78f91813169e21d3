use Rattle.std.proofs.Common.{◌≡◌, None, IfOk, OnErr, subst}
use Rattle.rambo_node.specs.Steps.{Step}
use Rattle.rambo_node.specs.declared.step.StepOf.TheVariants as step
use Rattle.rambo_run.specs.Runs.{result_of}
use Rattle.rambo_run.specs.Steps.{refusal}
use Rattle.rambo_run.specs.Told as told
use Rattle.rambo_run.specs.Ongoing.{RunningOf}
use Rattle.rambo_names.proofs.Sizes.{up_fits, back_fits}
use Rattle.rambo_world.proofs.Reached.{reached_on, goes_on, stays}
use Rattle.rambo_world.proofs.running.RunningRun.deliver.Goals as goal

pub deliver-requires : goal.deliver-requires
deliver-requires g c = back_fits _ _ _ (up_fits _ _ _ c.requires-raw.1.1)

pub invariant_of-self : goal.invariant_of-self
invariant_of-self g c = reached_on g.Q.Quorums.system c.self.inside.founders c.self.inside.state c.deliver.new.self (step.Deliver c.args.number) c.deliver.result c.self.invariant c.deliver.ensures.after c.deliver.ensures.err

pub returns-clause-told : goal.returns-clause-told
returns-clause-told g c =
    let s = g.Q.Quorums.system in
    let st : Step g.row.Q.Denot = step.Deliver c.args.number in
    subst (λ (v : RunningOf _). IfOk c.deliver.result (λ r. told.delivered r ≡ result_of (refusal s v.state st) v.state st)) c.self.view_is c.deliver.ensures.told

pub returns-clause-after : goal.returns-clause-after
returns-clause-after g c = goes_on g.Q.Quorums.system c.self.inside.founders c.self.inside.state c.deliver.new.self c.args.self.now (step.Deliver c.args.number) c.deliver.result c.self.view_is c.deliver.ensures.after

pub returns-clause-err : goal.returns-clause-err
returns-clause-err g c = stays c.self.inside.founders c.self.inside.state c.deliver.new.self c.args.self.now c.deliver.result c.self.view_is c.deliver.ensures.err

pub returns-clause-accepted : goal.returns-clause-accepted
returns-clause-accepted g c =
    let s = g.Q.Quorums.system in
    let st : Step g.row.Q.Denot = step.Deliver c.args.number in
    subst (λ (v : RunningOf _). OnErr c.deliver.result (refusal s v.state st ≡ None)) c.self.view_is c.deliver.ensures.accepted
