use Rattle.std.proofs.Common.{◌≡◌, None, IfOk, OnErr, subst}
use Rattle.rambo_node.specs.Steps.{Step}
use Rattle.rambo_node.specs.declared.step.StepOf.TheVariants as step
use Rattle.rambo_run.specs.Runs.{result_of}
use Rattle.rambo_run.specs.Steps.{refusal}
use Rattle.rambo_run.specs.Told as told
use Rattle.rambo_run.specs.Ongoing.{RunningOf}
use Rattle.rambo_names.proofs.Sizes.{up_fits, back_fits}
use Rattle.rambo_world.proofs.Reached.{reached_on, goes_on, stays}
use Rattle.rambo_world.proofs.running.RunningRun.send.Goals as goal

pub send-requires : goal.send-requires
send-requires g c = back_fits _ _ _ (up_fits _ _ _ c.requires-raw.1.1)

pub invariant_of-self : goal.invariant_of-self
invariant_of-self g c = reached_on g.Q.Quorums.system c.self.inside.founders c.self.inside.state c.send.new.self (step.Send c.args.from c.args.to) c.send.result c.self.invariant c.send.ensures.after c.send.ensures.err

pub returns-clause-told : goal.returns-clause-told
returns-clause-told g c =
    let s = g.Q.Quorums.system in
    let st : Step g.row.Q.Denot = step.Send c.args.from c.args.to in
    subst (λ (v : RunningOf _). IfOk c.send.result (λ r. told.sent r ≡ result_of (refusal s v.state st) v.state st)) c.self.view_is c.send.ensures.told

pub returns-clause-after : goal.returns-clause-after
returns-clause-after g c = goes_on g.Q.Quorums.system c.self.inside.founders c.self.inside.state c.send.new.self c.args.self.now (step.Send c.args.from c.args.to) c.send.result c.self.view_is c.send.ensures.after

pub returns-clause-err : goal.returns-clause-err
returns-clause-err g c = stays c.self.inside.founders c.self.inside.state c.send.new.self c.args.self.now c.send.result c.self.view_is c.send.ensures.err

pub returns-clause-accepted : goal.returns-clause-accepted
returns-clause-accepted g c =
    let s = g.Q.Quorums.system in
    let st : Step g.row.Q.Denot = step.Send c.args.from c.args.to in
    subst (λ (v : RunningOf _). OnErr c.send.result (refusal s v.state st ≡ None)) c.self.view_is c.send.ensures.accepted
