use Rattle.std.proofs.Common.{◌≡◌, None, Some, IfOk, refl, sym, subst}
use Rattle.rambo_run.specs.Runs.{result_of}
use Rattle.rambo_run.specs.Steps.{refusal}
use Rattle.rambo_run.specs.Told.{called}
use Rattle.rambo_world.specs.Worlds.{EventFits}
use Rattle.rambo_node.specs.declared.step.StepOf.TheVariants as step
use Rattle.rambo_run.proofs.GoingOn.{after-refused}
use Rattle.rambo_names.proofs.Sizes.{up_fits, back_fits, next}
use Rattle.rambo_world.proofs.Single.{refused_told}
use Rattle.rambo_world.proofs.Turns.{judged_now}
use Rattle.rambo_world.proofs.state.State.call_lent.Goals as goal
use Rattle.rambo_node.specs.Acts as act

pub node-requires : goal.node-requires
node-requires g c =
    let nodes = back_fits _ _ _ (next _ _ _ _ (next _ _ _ _ (next _ _ _ _ (up_fits _ _ _ c.requires-raw.1.1.0)))) in
    (nodes, back_fits _ _ _ (up_fits _ _ _ nodes))

pub may_call-requires : goal.may_call-requires
may_call-requires g c = back_fits _ _ _ (up_fits _ _ _ (back_fits _ _ _ (next _ _ _ _ (next _ _ _ _ (next _ _ _ _ (up_fits _ _ _ c.requires-raw.1.1.0))))))

pub call-requires : goal.call-requires
call-requires g c = (c.requires-raw.1.1.0, subst (λ o. refusal g.Q.Quorums.system c.args.self.now (step.Call c.args.name o) ≡ None → EventFits c.args.self.now c.args.name (act.Call o)) (sym c.in-Ok.ensures.same) c.requires.fits)

pub returns-in-Ok-clause-told : goal.returns-in-Ok-clause-told
returns-in-Ok-clause-told g c =
    subst (λ o. IfOk c.call.result (λ r. called r ≡ result_of (refusal g.Q.Quorums.system c.args.self.now (step.Call c.args.name o)) c.args.self.now (step.Call c.args.name o))) c.in-Ok.ensures.same c.call.ensures.told

pub returns-in-Err-may_call-clause-told : goal.returns-in-Err-may_call-clause-told
returns-in-Err-may_call-clause-told g c =
    refused_told g.Q.Quorums.system c.args.self.now (step.Call c.args.name c.args.op.now) c.in-Err-may_call.refusal
    (judged_now g.Q.Quorums.system _ c.args.self.now c.self.view_is (step.Call c.args.name c.args.op.now) c.args.name (act.Call c.args.op.now) c.node.result.now.state refl c.node.ensures (Some c.in-Err-may_call.refusal) c.in-Err-may_call.ensures.refused)

pub returns-in-Err-may_call-clause-after : goal.returns-in-Err-may_call-clause-after
returns-in-Err-may_call-clause-after g c =
    sym (after-refused g.Q.Quorums.system c.args.self.now (step.Call c.args.name c.args.op.now) c.in-Err-may_call.refusal
    (judged_now g.Q.Quorums.system _ c.args.self.now c.self.view_is (step.Call c.args.name c.args.op.now) c.args.name (act.Call c.args.op.now) c.node.result.now.state refl c.node.ensures (Some c.in-Err-may_call.refusal) c.in-Err-may_call.ensures.refused))

pub returns-in_default-clause-accepted : goal.returns-in_default-clause-accepted
returns-in_default-clause-accepted g c =
    judged_now g.Q.Quorums.system _ c.args.self.now c.self.view_is (step.Call c.args.name c.args.op.now) c.args.name (act.Call c.args.op.now) c.node.result.now.state refl c.node.ensures None c.in_default.ensures.ok
