use Rattle.std.proofs.Common.{◌≡◌, ◌∙◌, [], None, Ok, Err, refl, sym, ap, subst}
use Rattle.rambo_history.specs.declared.event.CallId.{CallId}
use Rattle.rambo_node.specs.Acts as act
use Rattle.rambo_node.specs.Changes.{made_by}
use Rattle.rambo_node.specs.Prepared.{IsFound}
use Rattle.rambo_node.specs.Steps.{Step}
use Rattle.rambo_node.specs.declared.step.StepOf.TheVariants as step
use Rattle.rambo_run.specs.Ongoing.{RunningOf}
use Rattle.rambo_run.specs.Runs.{after, result_of}
use Rattle.rambo_run.specs.Steps.{refusal}
use Rattle.rambo_run.specs.Told.{advanced}
use Rattle.rambo_letters.proofs.Lists.{some_is}
use Rattle.rambo_world.specs.Deliveries.{world_of}
use Rattle.rambo_world.specs.Direct.{bare, IsReachedBare}
use Rattle.rambo_world.specs.Kept.{kept_at, state_at}
use Rattle.rambo_names.proofs.Errors.{on_err}
use Rattle.rambo_names.proofs.Sizes.{up_fits, back_fits, next}
use Rattle.rambo_world.proofs.Advancing.{ready_kept, ready_world, new_kept, still_world, went_nodes}
use Rattle.rambo_world.proofs.Alone.{refused_alone, stays_alone, accepted_alone, told_alone, changed_alone}
use Rattle.rambo_world.proofs.Bare.{bare_next}
use Rattle.rambo_world.proofs.Growth.{same_state}
use Rattle.rambo_world.proofs.Single.{advanced_told}
use Rattle.rambo_world.proofs.direct.Direct.advance.Goals as goal

pub node-requires : goal.node-requires
node-requires g c =
    let nodes = back_fits _ _ _ (next _ _ _ _ (up_fits _ _ _ c.requires-raw.1.1)) in
    (nodes, back_fits _ _ _ (up_fits _ _ _ nodes))

pub may_advance-requires : goal.may_advance-requires
may_advance-requires g c = back_fits _ _ _ (up_fits _ _ _ (back_fits _ _ _ (next _ _ _ _ (up_fits _ _ _ c.requires-raw.1.1))))

-- the node refuses it
pub returns-in-Err-clause-told : goal.returns-in-Err-clause-told
returns-in-Err-clause-told g c =
    let s = g.Q.Quorums.system in
    let st : Step g.row.Q.Denot = step.Advance c.args.id in
    subst (λ (v : RunningOf _). Err c.in-Err.refusal ≡ result_of (refusal s v.state st) v.state st) c.self.view_is
    (refused_alone s c.self.inside.nodes st c.args.id.name (act.Advance c.args.id) refl c.node.result.now.state c.node.ensures c.in-Err.refusal c.in-Err.ensures.refused)

pub returns-in-Err-clause-after : goal.returns-in-Err-clause-after
returns-in-Err-clause-after g c =
    let s = g.Q.Quorums.system in
    let st : Step g.row.Q.Denot = step.Advance c.args.id in
    subst (λ (v : RunningOf _). v ≡ record v { state = bare (after s v.state st) }) c.self.view_is
    (λ i. record {
      founders = c.self.inside.founders;
      state = stays_alone s c.self.inside.nodes st c.args.id.name (act.Advance c.args.id) refl c.node.result.now.state c.node.ensures c.in-Err.refusal c.in-Err.ensures.refused i;
    })

pub returns-in-Err-clause-reached : goal.returns-in-Err-clause-reached
returns-in-Err-clause-reached g c = subst (λ (v : RunningOf _). IsReachedBare g.Q.Quorums.system v.founders v.state) c.self.view_is c.self.invariant.0

pub ready_advance-requires : goal.ready_advance-requires
ready_advance-requires g c = (
  back_fits _ _ _ (next _ _ _ _ (up_fits _ _ _ c.requires-raw.1.1)),
  (
    λ x at. subst (λ x. IsFound g.Q.Quorums.system x c.args.id c.in-Ok.found) (some_is c.node.result.now.state x (sym c.node.ensures ∙ at)) c.in-Ok.ensures.ok,
    (record { kept = refl; put = refl }, c.default-deed.ensures),
  ),
)

-- there is no room in the node
pub returns-in_err-ready_advance-clause-accepted : goal.returns-in_err-ready_advance-clause-accepted
returns-in_err-ready_advance-clause-accepted g c =
    let s = g.Q.Quorums.system in
    let st : Step g.row.Q.Denot = step.Advance c.args.id in
    on_err c.from_residual.result
    (subst (λ (v : RunningOf _). refusal s v.state st ≡ None) c.self.view_is
    (accepted_alone s c.self.inside.nodes st c.args.id.name (act.Advance c.args.id) refl c.node.result.now.state c.node.ensures c.in-Ok.ensures.ok.accepted))

pub invariant_of-self : goal.invariant_of-self
invariant_of-self g c = (
  subst (IsReachedBare g.Q.Quorums.system c.self.inside.founders) (sym (ready_world c.self.inside.nodes c.ready_advance.new.self c.ready_advance.ensures.same [] c.self.inside.merged c.self.invariant.1 [] [] [] [] refl refl)) c.self.invariant.0,
  ready_kept c.self.inside.nodes c.ready_advance.new.self c.ready_advance.ensures.same [] c.self.inside.merged c.self.invariant.1,
)

pub returns-in_err-ready_advance-clause-err : goal.returns-in_err-ready_advance-clause-err
returns-in_err-ready_advance-clause-err g c =
    let still = ready_world c.self.inside.nodes c.ready_advance.new.self c.ready_advance.ensures.same [] c.self.inside.merged c.self.invariant.1 [] [] [] [] refl refl in
    on_err c.from_residual.result ((λ i. record { founders = c.self.inside.founders; state = still i }) ∙ c.self.view_is)

pub returns-in_err-ready_advance-clause-reached : goal.returns-in_err-ready_advance-clause-reached
returns-in_err-ready_advance-clause-reached g c =
    subst (IsReachedBare g.Q.Quorums.system c.self.inside.founders) (sym (ready_world c.self.inside.nodes c.ready_advance.new.self c.ready_advance.ensures.same [] c.self.inside.merged c.self.invariant.1 [] [] [] [] refl refl)) c.self.invariant.0

pub finish_advance-requires : goal.finish_advance-requires
finish_advance-requires g c =
    let ks = c.self.inside.nodes in
    let ready = c.ready_advance.new.self in
    let done = c.in_ok-ready_advance.ensures in (
      back_fits _ _ _ (next _ _ _ _ (up_fits _ _ _ c.requires-raw.1.1)),
      (
        λ k found. done.moving k (ap (λ (i : CallId). kept_at ready i.name) (sym done.id) ∙ found),
        λ x found. done.deed x (sym (same_state ks ready c.args.id.name c.ready_advance.ensures.same) ∙ ap (λ (i : CallId). state_at ready i.name) (sym done.id) ∙ found)
            ∙ ap (λ i. (made_by x (act.Advance i)).deed) (sym done.id),
      ),
    )

-- or in its log
pub returns-in_err-finish_advance-clause-accepted : goal.returns-in_err-finish_advance-clause-accepted
returns-in_err-finish_advance-clause-accepted g c =
    let s = g.Q.Quorums.system in
    let st : Step g.row.Q.Denot = step.Advance c.args.id in
    on_err c.from_residual-in_err-finish_advance.result
    (subst (λ (v : RunningOf _). refusal s v.state st ≡ None) c.self.view_is
    (accepted_alone s c.self.inside.nodes st c.args.id.name (act.Advance c.args.id) refl c.node.result.now.state c.node.ensures c.in-Ok.ensures.ok.accepted))

pub invariant_of-self-in_err-finish_advance : goal.invariant_of-self-in_err-finish_advance
invariant_of-self-in_err-finish_advance g c =
    let still = still_world c.self.inside.nodes c.ready_advance.new.self c.ready_advance.ensures.same [] c.self.inside.merged c.self.invariant.1 c.finish_advance.new.self c.finish_advance.ensures.grow c.in_err-finish_advance.ensures.err [] [] [] [] refl refl in
    (subst (IsReachedBare g.Q.Quorums.system c.self.inside.founders) (sym still) c.self.invariant.0, new_kept c.self.inside.nodes c.ready_advance.new.self c.ready_advance.ensures.same [] c.self.inside.merged c.self.invariant.1 c.finish_advance.new.self c.finish_advance.ensures.grow)

pub returns-in_err-finish_advance-clause-err : goal.returns-in_err-finish_advance-clause-err
returns-in_err-finish_advance-clause-err g c =
    let still = still_world c.self.inside.nodes c.ready_advance.new.self c.ready_advance.ensures.same [] c.self.inside.merged c.self.invariant.1 c.finish_advance.new.self c.finish_advance.ensures.grow c.in_err-finish_advance.ensures.err [] [] [] [] refl refl in
    on_err c.from_residual-in_err-finish_advance.result ((λ i. record { founders = c.self.inside.founders; state = still i }) ∙ c.self.view_is)

pub returns-in_err-finish_advance-clause-reached : goal.returns-in_err-finish_advance-clause-reached
returns-in_err-finish_advance-clause-reached g c =
    let still = still_world c.self.inside.nodes c.ready_advance.new.self c.ready_advance.ensures.same [] c.self.inside.merged c.self.invariant.1 c.finish_advance.new.self c.finish_advance.ensures.grow c.in_err-finish_advance.ensures.err [] [] [] [] refl refl in
    subst (IsReachedBare g.Q.Quorums.system c.self.inside.founders) (sym still) c.self.invariant.0

-- it goes on
pub invariant_of-self-2 : goal.invariant_of-self-2
invariant_of-self-2 g c =
    let s = g.Q.Quorums.system in
    let st : Step g.row.Q.Denot = step.Advance c.args.id in
    let nodes = went_nodes c.self.inside.nodes c.ready_advance.new.self c.ready_advance.ensures.same [] c.self.inside.merged c.self.invariant.1 c.finish_advance.new.self c.finish_advance.ensures.grow c.args.id c.ready_advance.new.moving.id c.in_ok-ready_advance.ensures.id c.in_ok-finish_advance.ensures.nodes in
    let done = changed_alone s c.self.inside.nodes st c.args.id.name (act.Advance c.args.id) refl c.node.result.now.state c.node.ensures c.in-Ok.ensures.ok.accepted refl c.finish_advance.new.self nodes in (
      bare_next s c.self.inside.founders st c.args.id.name (act.Advance c.args.id) (λ v. refl) (world_of c.self.inside.nodes [] [] []) (world_of c.finish_advance.new.self [] [] []) c.self.invariant.0 done,
      new_kept c.self.inside.nodes c.ready_advance.new.self c.ready_advance.ensures.same [] c.self.inside.merged c.self.invariant.1 c.finish_advance.new.self c.finish_advance.ensures.grow,
    )

pub returns : goal.returns
returns g c =
    let s = g.Q.Quorums.system in
    let st : Step g.row.Q.Denot = step.Advance c.args.id in
    let x = c.node.result.now.state in
    let w = world_of c.self.inside.nodes [] [] [] in
    let nodes = went_nodes c.self.inside.nodes c.ready_advance.new.self c.ready_advance.ensures.same [] c.self.inside.merged c.self.invariant.1 c.finish_advance.new.self c.finish_advance.ensures.grow c.args.id c.ready_advance.new.moving.id c.in_ok-ready_advance.ensures.id c.in_ok-finish_advance.ensures.nodes in
    let done = changed_alone s c.self.inside.nodes st c.args.id.name (act.Advance c.args.id) refl c.node.result.now.state c.node.ensures c.in-Ok.ensures.ok.accepted refl c.finish_advance.new.self nodes in
    let effect = ap (λ d. d.effect) c.in_ok-finish_advance.ensures.deed ∙ ap (λ d. d.effect) (c.in_ok-ready_advance.ensures.deed x c.node.ensures) in
    let told = told_alone s c.self.inside.nodes st c.args.id.name (act.Advance c.args.id) refl x c.node.ensures c.in-Ok.ensures.ok.accepted refl c.finish_advance.new.self nodes in
    record {
      told = subst (λ (v : RunningOf _). advanced c.args.id c.answer_got.result ≡ result_of (refusal s v.state st) v.state st) c.self.view_is
          (ap (advanced c.args.id) c.answer_got.ensures ∙ advanced_told s w c.args.id (Ok c.finish_advance.new.deed.effect) (ap Ok effect ∙ told));
      after = λ i. record { founders = (c.self.view_is i).founders; state = (done ∙ ap (λ (v : RunningOf _). bare (after s v.state st)) c.self.view_is) i };
      reached = bare_next s c.self.inside.founders st c.args.id.name (act.Advance c.args.id) (λ v. refl) (world_of c.self.inside.nodes [] [] []) (world_of c.finish_advance.new.self [] [] []) c.self.invariant.0 done;
      accepted = tt;
      err = tt;
      refused = tt;
    }
