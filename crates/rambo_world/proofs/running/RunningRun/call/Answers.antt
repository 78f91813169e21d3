use Rattle.std.proofs.Common.{◌≡◌, None, IfOk, OnErr, refl, subst}
use Rattle.rambo_node.specs.Steps.{Step}
use Rattle.rambo_node.specs.declared.step.StepOf.TheVariants as step
use Rattle.rambo_run.specs.Runs.{result_of}
use Rattle.rambo_run.specs.Steps.{refusal}
use Rattle.rambo_run.specs.Told as told
use Rattle.rambo_run.specs.Ongoing.{RunningOf}
use Rattle.rambo_names.proofs.Sizes.{up_fits, back_fits}
use Rattle.rambo_world.proofs.Reached.{reached_fits, reached_on, goes_on, stays}
use Rattle.rambo_world.proofs.Turns.{step_fits}
use Rattle.rambo_world.proofs.running.RunningRun.call.Goals as goal
use Rattle.rambo_node.specs.Acts as act

pub call-requires : goal.call-requires
call-requires g c = (back_fits _ _ _ (up_fits _ _ _ c.requires-raw.1.1), step_fits c.self.inside.state (step.Call c.args.name c.args.op) c.args.name (act.Call c.args.op) refl g.Q.Quorums.system (reached_fits g.Q.Quorums.system c.self.inside.founders c.self.inside.state c.self.invariant).0)

pub invariant_of-self : goal.invariant_of-self
invariant_of-self g c = reached_on g.Q.Quorums.system c.self.inside.founders c.self.inside.state c.call.new.self (step.Call c.args.name c.args.op) c.call.result c.self.invariant c.call.ensures.after c.call.ensures.err

pub returns-clause-told : goal.returns-clause-told
returns-clause-told g c =
    let s = g.Q.Quorums.system in
    let st : Step g.row.Q.Denot = step.Call c.args.name c.args.op in
    subst (λ (v : RunningOf _). IfOk c.call.result (λ r. told.called r ≡ result_of (refusal s v.state st) v.state st)) c.self.view_is c.call.ensures.told

pub returns-clause-after : goal.returns-clause-after
returns-clause-after g c = goes_on g.Q.Quorums.system c.self.inside.founders c.self.inside.state c.call.new.self c.args.self.now (step.Call c.args.name c.args.op) c.call.result c.self.view_is c.call.ensures.after

pub returns-clause-err : goal.returns-clause-err
returns-clause-err g c = stays c.self.inside.founders c.self.inside.state c.call.new.self c.args.self.now c.call.result c.self.view_is c.call.ensures.err

pub returns-clause-accepted : goal.returns-clause-accepted
returns-clause-accepted g c =
    let s = g.Q.Quorums.system in
    let st : Step g.row.Q.Denot = step.Call c.args.name c.args.op in
    subst (λ (v : RunningOf _). OnErr c.call.result (refusal s v.state st ≡ None)) c.self.view_is c.call.ensures.accepted
