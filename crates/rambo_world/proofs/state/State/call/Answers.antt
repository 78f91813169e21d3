use Rattle.std.proofs.lemmas.Grind.{common_steps}
use Rattle.std.proofs.Common.{◌≡◌, ◌∙◌, ◌++◌, ◌∷◌, [], None, Some, refl, sym, ap, subst, arith}
use Rattle.rambo_history.specs.declared.event.Event.TheVariants as event
use Rattle.rambo_history.specs.Faults.{fault_of}
use Rattle.rambo_node.specs.Changes.{made_by, refusal_of}
use Rattle.rambo_node.specs.declared.effect.Effect.TheVariants as effect
use Rattle.rambo_node.specs.Acts as act
use Rattle.rambo_node.specs.declared.step.StepOf.TheVariants as step
use Rattle.rambo_run.specs.Steps.{turn}
use Rattle.rambo_run.proofs.GoingOn.{after-refused}
use Rattle.rambo_letters.proofs.Lists.{some_is}
use Rattle.rambo_world.specs.Deliveries.{world_of}
use Rattle.rambo_world.specs.Worlds.{EventFits}
use Rattle.rambo_names.proofs.Errors.{on_err}
use Rattle.rambo_names.proofs.Sizes.{up_fits, back_fits, next}
use Rattle.rambo_world.proofs.Changing.{changed_world, same_world}
use Rattle.rambo_world.proofs.Single.{refused_told, taken_told, taken_after}
use Rattle.rambo_world.proofs.Stepping.{kept_stays, letters_stay}
use Rattle.rambo_world.proofs.Turns.{judged_now, turned_now}
use Rattle.rambo_world.proofs.state.State.call.Goals as goal

pub node-requires : goal.node-requires
node-requires g c =
    let nodes = back_fits _ _ _ (next _ _ _ _ (next _ _ _ _ (next _ _ _ _ (up_fits _ _ _ c.requires-raw.1.1.0)))) in
    (nodes, back_fits _ _ _ (up_fits _ _ _ nodes))

pub may_call-requires : goal.may_call-requires
may_call-requires g c = back_fits _ _ _ (up_fits _ _ _ (back_fits _ _ _ (next _ _ _ _ (next _ _ _ _ (next _ _ _ _ (up_fits _ _ _ c.requires-raw.1.1.0))))))

pub returns-in-Err-clause-told : goal.returns-in-Err-clause-told
returns-in-Err-clause-told g c =
    refused_told g.Q.Quorums.system c.args.self.now (step.Call c.args.name c.args.op) c.in-Err.refusal
    (judged_now g.Q.Quorums.system _ c.args.self.now c.self.view_is (step.Call c.args.name c.args.op) c.args.name (act.Call c.args.op) c.node.result.now.state refl c.node.ensures (Some c.in-Err.refusal) c.in-Err.ensures.refused)

pub returns-in-Err-clause-after : goal.returns-in-Err-clause-after
returns-in-Err-clause-after g c =
    sym (after-refused g.Q.Quorums.system c.args.self.now (step.Call c.args.name c.args.op) c.in-Err.refusal
    (judged_now g.Q.Quorums.system _ c.args.self.now c.self.view_is (step.Call c.args.name c.args.op) c.args.name (act.Call c.args.op) c.node.result.now.state refl c.node.ensures (Some c.in-Err.refusal) c.in-Err.ensures.refused))

pub returns-in_err-make_room-clause-accepted : goal.returns-in_err-make_room-clause-accepted
returns-in_err-make_room-clause-accepted g c =
    on_err c.from_residual.result
    (judged_now g.Q.Quorums.system _ c.args.self.now c.self.view_is (step.Call c.args.name c.args.op) c.args.name (act.Call c.args.op) c.node.result.now.state refl c.node.ensures None c.in_default.ensures.ok)

pub returns-in_err-asked-clause-accepted : goal.returns-in_err-asked-clause-accepted
returns-in_err-asked-clause-accepted g c =
    on_err c.from_residual-in_err-asked.result
    (judged_now g.Q.Quorums.system _ c.args.self.now c.self.view_is (step.Call c.args.name c.args.op) c.args.name (act.Call c.args.op) c.node.result.now.state refl c.node.ensures None c.in_default.ensures.ok)

pub call-requires : goal.call-requires
call-requires g c = (
  back_fits _ _ _ (next _ _ _ _ (next _ _ _ _ (next _ _ _ _ (up_fits _ _ _ c.requires-raw.1.1.0)))),
  λ x found. ap (λ y. refusal_of g.Q.Quorums.system y (act.Call c.args.op)) (some_is x c.node.result.now.state (sym found ∙ c.node.ensures)) ∙ c.in_default.ensures.ok,
)

pub returns-in_err-id-clause-accepted : goal.returns-in_err-id-clause-accepted
returns-in_err-id-clause-accepted g c =
    on_err c.from_residual-in_err-id.result
    (judged_now g.Q.Quorums.system _ c.args.self.now c.self.view_is (step.Call c.args.name c.args.op) c.args.name (act.Call c.args.op) c.node.result.now.state refl c.node.ensures None c.in_default.ensures.ok)

pub invariant_of-self-in_err-id : goal.invariant_of-self-in_err-id
invariant_of-self-in_err-id g c = kept_stays c.self.inside.nodes c.call.new.self c.call.ensures.grow c.self.inside.letters c.self.inside.merged c.self.invariant

pub returns-in_err-id-clause-err : goal.returns-in_err-id-clause-err
returns-in_err-id-clause-err g c =
    on_err c.from_residual-in_err-id.result
    (same_world c.self.inside.nodes c.call.new.self c.self.inside.letters c.self.inside.chronicle.events _ c.self.inside.chronicle.marks _ c.in_err-id.ensures.err c.self.invariant.sent
    (ap (λ h. h.events) c.expect_call.ensures.same ∙ c.make_room.ensures.events) (ap (λ h. h.marks) c.expect_call.ensures.same ∙ c.make_room.ensures.marks)
    ∙ c.self.view_is)

pub add_call-requires-clause-fits : goal.add_call-requires-clause-fits
unfolding made_by
add_call-requires-clause-fits g c =
    let n = c.args.name in
    let ch = act.Call c.args.op in
    let x = c.node.result.now.state in
    let ev = event.Call c.in_ok-id.id c.in_ok-asked.asked in
    let fits = subst (λ w. EventFits w n ch) (sym c.self.view_is)
    (c.requires.fits (judged_now g.Q.Quorums.system _ c.args.self.now c.self.view_is (step.Call c.args.name c.args.op) c.args.name (act.Call c.args.op) c.node.result.now.state refl c.node.ensures None c.in_default.ensures.ok)) in
    let id = c.in_ok-id.ensures.id x c.node.ensures in
    ap (λ h. fault_of h ev) (ap (λ h. h.events) c.expect_call.ensures.same ∙ c.make_room.ensures.events)
    ∙ fits x ev c.node.ensures (sym (λ i. Some (event.Call (id i) (c.in_ok-asked.ensures.same i))))

pub invariant_of-self-2 : goal.invariant_of-self-2
invariant_of-self-2 g c = kept_stays c.self.inside.nodes c.call.new.self c.call.ensures.grow c.self.inside.letters c.self.inside.merged c.self.invariant

turned : (g : _) (c : goal.After-add_call g) → turn c.args.self.now (step.Call c.args.name c.args.op)
    ≡ record { world = world_of c.call.new.self c.self.inside.letters c.add_call.new.self.events c.add_call.new.self.marks; effect = effect.Called c.in_ok-id.id }
unfolding made_by
turned g c =
    let ks = c.self.inside.nodes in
    let ss = c.self.inside.letters in
    let h = c.self.inside.chronicle.events in
    let ms = c.self.inside.chronicle.marks in
    let n = c.args.name in
    let ch = act.Call c.args.op in
    let x = c.node.result.now.state in
    let new = c.call.new.self in
    let id = c.in_ok-id.ensures.id x c.node.ensures in
    turned_now _ c.args.self.now c.self.view_is (step.Call n c.args.op) n ch refl _
    (changed_world ks new ss h c.add_call.new.self.events ms c.add_call.new.self.marks n ch (effect.Called c.in_ok-id.id) x c.in_ok-id.ensures.nodes (letters_stay ks new c.call.ensures.grow ss c.self.invariant.sent)
    c.node.ensures refl (ap effect.Called id)
    (c.add_call.ensures.events ∙ λ i. (ap (λ h. h.events) c.expect_call.ensures.same ∙ c.make_room.ensures.events) i ++ event.Call (id i) (c.in_ok-asked.ensures.same i) ∷ [])
    (c.add_call.ensures.marks ∙ ap (λ h. h.marks) c.expect_call.ensures.same ∙ c.make_room.ensures.marks))

pub returns-clause-told : goal.returns-clause-told
returns-clause-told g c =
    taken_told g.Q.Quorums.system c.args.self.now (step.Call c.args.name c.args.op) _ (effect.Called c.in_ok-id.id)
    (judged_now g.Q.Quorums.system _ c.args.self.now c.self.view_is (step.Call c.args.name c.args.op) c.args.name (act.Call c.args.op) c.node.result.now.state refl c.node.ensures None c.in_default.ensures.ok) (turned g c)

pub returns-clause-after : goal.returns-clause-after
returns-clause-after g c =
    taken_after g.Q.Quorums.system c.args.self.now (step.Call c.args.name c.args.op) _ (effect.Called c.in_ok-id.id)
    (judged_now g.Q.Quorums.system _ c.args.self.now c.self.view_is (step.Call c.args.name c.args.op) c.args.name (act.Call c.args.op) c.node.result.now.state refl c.node.ensures None c.in_default.ensures.ok) (turned g c)

pub add_call-requires-clause-room : goal.add_call-requires-clause-room
add_call-requires-clause-room g c = grind (arith, common_steps)
