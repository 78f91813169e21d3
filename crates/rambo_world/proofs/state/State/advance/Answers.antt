use Rattle.std.proofs.Common.{◌∙◌, None, Some, refl, sym, ap, subst}
use Rattle.rambo_history.specs.declared.event.CallId.{CallId}
use Rattle.rambo_history.specs.Faults.{fault_of}
use Rattle.rambo_node.specs.Changes.{made_by}
use Rattle.rambo_node.specs.Prepared.{IsFound}
use Rattle.rambo_node.specs.Acts as act
use Rattle.rambo_node.specs.declared.step.StepOf.TheVariants as step
use Rattle.rambo_run.specs.Chronicles.{IsMarked}
use Rattle.rambo_run.specs.Steps.{with_event, with_mark}
use Rattle.rambo_run.proofs.GoingOn.{after-refused}
use Rattle.rambo_letters.proofs.Lists.{some_is}
use Rattle.rambo_world.specs.Kept.{kept_at, state_at}
use Rattle.rambo_world.specs.Worlds.{EventFits, MarkFits}
use Rattle.rambo_names.proofs.Errors.{on_err}
use Rattle.rambo_names.proofs.Sizes.{up_fits, back_fits, next}
use Rattle.rambo_world.proofs.Advancing.{ready_kept, ready_world, new_kept, new_letters, still_world, went_nodes}
use Rattle.rambo_world.proofs.Changing.{changed_world}
use Rattle.rambo_world.proofs.Growth.{same_state}
use Rattle.rambo_world.proofs.Single.{refused_told, taken_told, taken_after}
use Rattle.rambo_world.proofs.Turns.{judged_now, turned_now}
use Rattle.rambo_world.proofs.state.State.advance.Goals as goal

pub node-requires : goal.node-requires
node-requires g c =
    let nodes = back_fits _ _ _ (next _ _ _ _ (next _ _ _ _ (next _ _ _ _ (up_fits _ _ _ c.requires-raw.1.1.0)))) in
    (nodes, back_fits _ _ _ (up_fits _ _ _ nodes))

pub may_advance-requires : goal.may_advance-requires
may_advance-requires g c = back_fits _ _ _ (up_fits _ _ _ (back_fits _ _ _ (next _ _ _ _ (next _ _ _ _ (next _ _ _ _ (up_fits _ _ _ c.requires-raw.1.1.0))))))

pub returns-in-Err-clause-told : goal.returns-in-Err-clause-told
returns-in-Err-clause-told g c =
    refused_told g.Q.Quorums.system c.args.self.now (step.Advance c.args.id) c.in-Err.refusal
    (judged_now g.Q.Quorums.system _ c.args.self.now c.self.view_is (step.Advance c.args.id) c.args.id.name (act.Advance c.args.id) c.node.result.now.state refl c.node.ensures (Some c.in-Err.refusal) c.in-Err.ensures.refused)

pub returns-in-Err-clause-after : goal.returns-in-Err-clause-after
returns-in-Err-clause-after g c =
    sym (after-refused g.Q.Quorums.system c.args.self.now (step.Advance c.args.id) c.in-Err.refusal
    (judged_now g.Q.Quorums.system _ c.args.self.now c.self.view_is (step.Advance c.args.id) c.args.id.name (act.Advance c.args.id) c.node.result.now.state refl c.node.ensures (Some c.in-Err.refusal) c.in-Err.ensures.refused))

pub ready_advance-requires : goal.ready_advance-requires
ready_advance-requires g c = (
  back_fits _ _ _ (next _ _ _ _ (next _ _ _ _ (next _ _ _ _ (up_fits _ _ _ c.requires-raw.1.1.0)))),
  (
    λ x at. subst (λ x. IsFound g.Q.Quorums.system x c.args.id c.in-Ok.found) (some_is c.node.result.now.state x (sym c.node.ensures ∙ at)) c.in-Ok.ensures.ok,
    (record { kept = refl; put = refl }, c.default-deed.ensures),
  ),
)

-- there is no room in the node
pub returns-in_err-ready_advance-clause-accepted : goal.returns-in_err-ready_advance-clause-accepted
returns-in_err-ready_advance-clause-accepted g c =
    on_err c.from_residual.result
    (judged_now g.Q.Quorums.system _ c.args.self.now c.self.view_is (step.Advance c.args.id) c.args.id.name (act.Advance c.args.id) c.node.result.now.state refl c.node.ensures None c.in-Ok.ensures.ok.accepted)

pub invariant_of-self : goal.invariant_of-self
invariant_of-self g c = ready_kept c.self.inside.nodes c.ready_advance.new.self c.ready_advance.ensures.same c.self.inside.letters c.self.inside.merged c.self.invariant

pub returns-in_err-ready_advance-clause-err : goal.returns-in_err-ready_advance-clause-err
returns-in_err-ready_advance-clause-err g c =
    on_err c.from_residual.result
    (ready_world c.self.inside.nodes c.ready_advance.new.self c.ready_advance.ensures.same c.self.inside.letters c.self.inside.merged c.self.invariant c.self.inside.chronicle.events _ c.self.inside.chronicle.marks _ refl refl ∙ c.self.view_is)

-- or beside it
pub returns-in_err-make_room_for-clause-accepted : goal.returns-in_err-make_room_for-clause-accepted
returns-in_err-make_room_for-clause-accepted g c =
    on_err c.from_residual-in_err-make_room_for.result
    (judged_now g.Q.Quorums.system _ c.args.self.now c.self.view_is (step.Advance c.args.id) c.args.id.name (act.Advance c.args.id) c.node.result.now.state refl c.node.ensures None c.in-Ok.ensures.ok.accepted)

pub invariant_of-self-in_err-make_room_for : goal.invariant_of-self-in_err-make_room_for
invariant_of-self-in_err-make_room_for g c = ready_kept c.self.inside.nodes c.ready_advance.new.self c.ready_advance.ensures.same c.self.inside.letters c.self.inside.merged c.self.invariant

pub returns-in_err-make_room_for-clause-err : goal.returns-in_err-make_room_for-clause-err
returns-in_err-make_room_for-clause-err g c =
    on_err c.from_residual-in_err-make_room_for.result
    (ready_world c.self.inside.nodes c.ready_advance.new.self c.ready_advance.ensures.same c.self.inside.letters c.self.inside.merged c.self.invariant c.self.inside.chronicle.events _ c.self.inside.chronicle.marks _ c.make_room_for.ensures.events c.make_room_for.ensures.marks
    ∙ c.self.view_is)

pub finish_advance-requires : goal.finish_advance-requires
finish_advance-requires g c =
    let ks = c.self.inside.nodes in
    let ready = c.ready_advance.new.self in
    let done = c.in_ok-ready_advance.ensures in (
      back_fits _ _ _ (next _ _ _ _ (next _ _ _ _ (next _ _ _ _ (up_fits _ _ _ c.requires-raw.1.1.0)))),
      (
        λ k found. done.moving k (ap (λ (i : CallId). kept_at ready i.name) (sym done.id) ∙ found),
        λ x found. done.deed x (sym (same_state ks ready c.args.id.name c.ready_advance.ensures.same) ∙ ap (λ (i : CallId). state_at ready i.name) (sym done.id) ∙ found)
            ∙ ap (λ i. (made_by x (act.Advance i)).deed) (sym done.id),
      ),
    )

-- or in its log
pub returns-in_err-finish_advance-clause-accepted : goal.returns-in_err-finish_advance-clause-accepted
returns-in_err-finish_advance-clause-accepted g c =
    on_err c.from_residual-in_err-finish_advance.result
    (judged_now g.Q.Quorums.system _ c.args.self.now c.self.view_is (step.Advance c.args.id) c.args.id.name (act.Advance c.args.id) c.node.result.now.state refl c.node.ensures None c.in-Ok.ensures.ok.accepted)

pub invariant_of-self-in_err-finish_advance : goal.invariant_of-self-in_err-finish_advance
invariant_of-self-in_err-finish_advance g c =
    new_kept c.self.inside.nodes c.ready_advance.new.self c.ready_advance.ensures.same c.self.inside.letters c.self.inside.merged c.self.invariant c.finish_advance.new.self c.finish_advance.ensures.grow

pub returns-in_err-finish_advance-clause-err : goal.returns-in_err-finish_advance-clause-err
returns-in_err-finish_advance-clause-err g c =
    on_err c.from_residual-in_err-finish_advance.result
    (still_world c.self.inside.nodes c.ready_advance.new.self c.ready_advance.ensures.same c.self.inside.letters c.self.inside.merged c.self.invariant c.finish_advance.new.self c.finish_advance.ensures.grow
    c.in_err-finish_advance.ensures.err c.self.inside.chronicle.events _ c.self.inside.chronicle.marks _ c.make_room_for.ensures.events c.make_room_for.ensures.marks
    ∙ c.self.view_is)

pub take-requires-clause-event_room : goal.take-requires-clause-event_room
take-requires-clause-event_room g c e found = c.in_ok-make_room_for.ensures.event_room e (sym (ap (λ d. d.event) c.in_ok-finish_advance.ensures.deed) ∙ found)

pub take-requires-clause-mark_room : goal.take-requires-clause-mark_room
take-requires-clause-mark_room g c m found = c.in_ok-make_room_for.ensures.mark_room m (sym (ap (λ d. d.mark) c.in_ok-finish_advance.ensures.deed) ∙ found)

pub take-requires-clause-fits : goal.take-requires-clause-fits
take-requires-clause-fits g c =
    let n = c.args.id.name in
    let ch = act.Advance c.args.id in
    let x = c.node.result.now.state in
    let fits = subst (λ w. EventFits w n ch) (sym c.self.view_is)
    (c.requires.fits (judged_now g.Q.Quorums.system _ c.args.self.now c.self.view_is (step.Advance c.args.id) c.args.id.name (act.Advance c.args.id) c.node.result.now.state refl c.node.ensures None c.in-Ok.ensures.ok.accepted)) in
    λ e found. ap (λ h. fault_of h e) c.make_room_for.ensures.events
    ∙ fits x e c.node.ensures (sym (ap (λ d. d.event) c.in_ok-finish_advance.ensures.deed ∙ ap (λ d. d.event) (c.in_ok-ready_advance.ensures.deed x c.node.ensures)) ∙ found)

pub take-requires-clause-told : goal.take-requires-clause-told
take-requires-clause-told g c =
    let n = c.args.id.name in
    let ch = act.Advance c.args.id in
    let x = c.node.result.now.state in
    let fits = subst (λ w. MarkFits w n ch) (sym c.self.view_is)
    (c.requires.told (judged_now g.Q.Quorums.system _ c.args.self.now c.self.view_is (step.Advance c.args.id) c.args.id.name (act.Advance c.args.id) c.node.result.now.state refl c.node.ensures None c.in-Ok.ensures.ok.accepted)) in
    let deed = c.in_ok-finish_advance.ensures.deed in
    let made = c.in_ok-ready_advance.ensures.deed x c.node.ensures in
    let event = ap (λ d. d.event) deed ∙ ap (λ d. d.event) made in
    λ m found. subst (λ h. IsMarked h m) (sym (λ i. with_event (c.make_room_for.ensures.events i) (event i)))
    (fits x m c.node.ensures (sym (ap (λ d. d.mark) deed ∙ ap (λ d. d.mark) made) ∙ found))

pub invariant_of-self-2 : goal.invariant_of-self-2
invariant_of-self-2 g c =
    new_kept c.self.inside.nodes c.ready_advance.new.self c.ready_advance.ensures.same c.self.inside.letters c.self.inside.merged c.self.invariant c.finish_advance.new.self c.finish_advance.ensures.grow

pub returns : goal.returns
returns g c =
    let s = g.Q.Quorums.system in
    let ks = c.self.inside.nodes in
    let ready = c.ready_advance.new.self in
    let same = c.ready_advance.ensures.same in
    let new = c.finish_advance.new.self in
    let grow = c.finish_advance.ensures.grow in
    let ss = c.self.inside.letters in
    let counts = c.self.inside.merged in
    let h = c.self.inside.chronicle.events in
    let ms = c.self.inside.chronicle.marks in
    let id = c.args.id in
    let x = c.node.result.now.state in
    let deed = c.in_ok-finish_advance.ensures.deed in
    let made = c.in_ok-ready_advance.ensures.deed x c.node.ensures in
    let accepted = judged_now g.Q.Quorums.system _ c.args.self.now c.self.view_is (step.Advance c.args.id) c.args.id.name (act.Advance c.args.id) c.node.result.now.state refl c.node.ensures None c.in-Ok.ensures.ok.accepted in
    let turned = turned_now _ c.args.self.now c.self.view_is (step.Advance id) id.name (act.Advance id) refl _
    (changed_world ks new ss h c.take.new.self.events ms c.take.new.self.marks id.name (act.Advance id) c.finish_advance.new.deed.effect x
    (went_nodes ks ready same ss counts c.self.invariant new grow id c.ready_advance.new.moving.id c.in_ok-ready_advance.ensures.id c.in_ok-finish_advance.ensures.nodes)
    (new_letters ks ready same ss counts c.self.invariant new grow) c.node.ensures refl
    (ap (λ d. d.effect) deed ∙ ap (λ d. d.effect) made)
    (c.take.ensures.events ∙ (λ i. with_event (c.make_room_for.ensures.events i) (deed i).event) ∙ ap (λ d. with_event h d.event) made)
    (c.take.ensures.marks ∙ (λ i. with_mark (c.make_room_for.ensures.marks i) (deed i).mark) ∙ ap (λ d. with_mark ms d.mark) made)) in
    record {
      told = taken_told s c.args.self.now (step.Advance id) _ c.finish_advance.new.deed.effect accepted turned;
      after = taken_after s c.args.self.now (step.Advance id) _ c.finish_advance.new.deed.effect accepted turned;
      accepted = tt;
      err = tt;
      refused = tt;
    }
