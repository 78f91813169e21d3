use Rattle.std.proofs.Common.{◌≡◌, ◌∙◌, [], None, Ok, Err, refl, sym, ap, subst}
use Rattle.rambo_history.specs.declared.event.CallId.{CallId}
use Rattle.rambo_node.specs.Acts as act
use Rattle.rambo_node.specs.Changes.{made_by, refusal_of}
use Rattle.rambo_node.specs.Steps.{Step}
use Rattle.rambo_node.specs.declared.effect.Effect.TheVariants as effect
use Rattle.rambo_node.specs.declared.step.StepOf.TheVariants as step
use Rattle.rambo_run.specs.Ongoing.{RunningOf}
use Rattle.rambo_run.specs.Runs.{after, result_of}
use Rattle.rambo_run.specs.Steps.{refusal}
use Rattle.rambo_letters.proofs.Lists.{some_is}
use Rattle.rambo_world.specs.Deliveries.{world_of}
use Rattle.rambo_world.specs.Direct.{bare, IsReachedBare}
use Rattle.rambo_names.proofs.Errors.{on_err}
use Rattle.rambo_names.proofs.Sizes.{up_fits, back_fits, next}
use Rattle.rambo_world.proofs.Alone.{refused_alone, stays_alone, accepted_alone, told_alone, changed_alone}
use Rattle.rambo_world.proofs.Bare.{bare_named, bare_next}
use Rattle.rambo_world.proofs.Changing.{same_world}
use Rattle.rambo_world.proofs.Stepping.{kept_stays}
use Rattle.rambo_world.proofs.direct.Direct.call.Goals as goal

pub node-requires : goal.node-requires
node-requires g c =
    let nodes = back_fits _ _ _ (next _ _ _ _ (up_fits _ _ _ c.requires-raw.1.1)) in
    (nodes, back_fits _ _ _ (up_fits _ _ _ nodes))

pub may_call-requires : goal.may_call-requires
may_call-requires g c = back_fits _ _ _ (up_fits _ _ _ (back_fits _ _ _ (next _ _ _ _ (up_fits _ _ _ c.requires-raw.1.1))))

-- the node refuses it
pub returns-in-Err-clause-told : goal.returns-in-Err-clause-told
returns-in-Err-clause-told g c =
    let s = g.Q.Quorums.system in
    let st : Step g.row.Q.Denot = step.Call c.args.name c.args.op in
    subst (λ (v : RunningOf _). Err c.in-Err.refusal ≡ result_of (refusal s v.state st) v.state st) c.self.view_is
    (refused_alone s c.self.inside.nodes st c.args.name (act.Call c.args.op) refl c.node.result.now.state c.node.ensures c.in-Err.refusal c.in-Err.ensures.refused)

pub returns-in-Err-clause-after : goal.returns-in-Err-clause-after
returns-in-Err-clause-after g c =
    let s = g.Q.Quorums.system in
    let st : Step g.row.Q.Denot = step.Call c.args.name c.args.op in
    subst (λ (v : RunningOf _). v ≡ record v { state = bare (after s v.state st) }) c.self.view_is
    (λ i. record {
      founders = c.self.inside.founders;
      state = stays_alone s c.self.inside.nodes st c.args.name (act.Call c.args.op) refl c.node.result.now.state c.node.ensures c.in-Err.refusal c.in-Err.ensures.refused i;
    })

pub call-requires : goal.call-requires
call-requires g c = (
  back_fits _ _ _ (next _ _ _ _ (up_fits _ _ _ c.requires-raw.1.1)),
  λ x found. ap (λ y. refusal_of g.Q.Quorums.system y (act.Call c.args.op)) (some_is x c.node.result.now.state (sym found ∙ c.node.ensures)) ∙ c.in_default.ensures.ok,
)

-- there is no room
pub returns-in_err-id-clause-accepted : goal.returns-in_err-id-clause-accepted
returns-in_err-id-clause-accepted g c =
    let s = g.Q.Quorums.system in
    let st : Step g.row.Q.Denot = step.Call c.args.name c.args.op in
    on_err c.from_residual.result
    (subst (λ (v : RunningOf _). refusal s v.state st ≡ None) c.self.view_is
    (accepted_alone s c.self.inside.nodes st c.args.name (act.Call c.args.op) refl c.node.result.now.state c.node.ensures c.in_default.ensures.ok))

pub invariant_of-self : goal.invariant_of-self
invariant_of-self g c =
    let ks = c.self.inside.nodes in
    let new = c.call.new.self in (
      subst (IsReachedBare g.Q.Quorums.system c.self.inside.founders) (sym (same_world ks new [] [] [] [] [] c.in_err-id.ensures.err c.self.invariant.1.sent refl refl)) c.self.invariant.0,
      kept_stays ks new c.call.ensures.grow [] c.self.inside.merged c.self.invariant.1,
    )

pub returns-in_err-id-clause-err : goal.returns-in_err-id-clause-err
returns-in_err-id-clause-err g c =
    on_err c.from_residual.result
    ((λ i. record {
      founders = c.self.inside.founders;
      state = same_world c.self.inside.nodes c.call.new.self [] [] [] [] [] c.in_err-id.ensures.err c.self.invariant.1.sent refl refl i;
    })
    ∙ c.self.view_is)

-- it is made
pub invariant_of-self-2 : goal.invariant_of-self-2
invariant_of-self-2 g c =
    let s = g.Q.Quorums.system in
    let st : Step g.row.Q.Denot = step.Call c.args.name c.args.op in
    let ks = c.self.inside.nodes in
    let new = c.call.new.self in (
      bare_next s c.self.inside.founders st c.args.name (act.Call c.args.op) (λ v. refl) (world_of ks [] [] []) (world_of new [] [] []) c.self.invariant.0
          (changed_alone s ks st c.args.name (act.Call c.args.op) refl c.node.result.now.state c.node.ensures c.in_default.ensures.ok refl new c.in_ok-id.ensures.nodes),
      kept_stays ks new c.call.ensures.grow [] c.self.inside.merged c.self.invariant.1,
    )

pub returns-clause-told : goal.returns-clause-told
unfolding made_by
returns-clause-told g c =
    let s = g.Q.Quorums.system in
    let st : Step g.row.Q.Denot = step.Call c.args.name c.args.op in
    let x = c.node.result.now.state in
    subst (λ (v : RunningOf _). Ok (effect.Called c.in_ok-id.id) ≡ result_of (refusal s v.state st) v.state st) c.self.view_is
    (ap (λ i. Ok (effect.Called i)) (c.in_ok-id.ensures.id x c.node.ensures)
    ∙ told_alone s c.self.inside.nodes st c.args.name (act.Call c.args.op) refl x c.node.ensures c.in_default.ensures.ok refl c.call.new.self c.in_ok-id.ensures.nodes)

pub returns-clause-named : goal.returns-clause-named
returns-clause-named g c =
    let x = c.node.result.now.state in
    ap (λ (i : CallId). i.name) (c.in_ok-id.ensures.id x c.node.ensures)
    ∙ bare_named g.Q.Quorums.system c.self.inside.founders (world_of c.self.inside.nodes [] [] []) c.self.invariant.0 c.args.name x c.node.ensures

pub returns-clause-after : goal.returns-clause-after
returns-clause-after g c =
    let s = g.Q.Quorums.system in
    let st : Step g.row.Q.Denot = step.Call c.args.name c.args.op in
    let done = changed_alone s c.self.inside.nodes st c.args.name (act.Call c.args.op) refl c.node.result.now.state c.node.ensures c.in_default.ensures.ok refl c.call.new.self c.in_ok-id.ensures.nodes in
    λ i. record { founders = (c.self.view_is i).founders; state = (done ∙ ap (λ (v : RunningOf _). bare (after s v.state st)) c.self.view_is) i }
