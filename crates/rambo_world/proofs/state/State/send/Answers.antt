use Rattle.std.proofs.Common.{◌≡◌, ◌∙◌, ◌-◌, None, Some, refl, sym, ap, subst}
use Rattle.rambo_node.specs.declared.effect.Effect.TheVariants as effect
use Rattle.rambo_node.specs.Acts as act
use Rattle.rambo_node.specs.Steps.{Step}
use Rattle.rambo_node.specs.declared.step.StepOf.TheVariants as step
use Rattle.rambo_run.specs.Steps.{refusal, turn}
use Rattle.rambo_run.proofs.GoingOn.{after-refused}
use Rattle.rambo_world.specs.Kept.{IsKept, IsSent}
use Rattle.rambo_world.specs.Deliveries.{world_of}
use Rattle.rambo_names.proofs.Errors.{on_err}
use Rattle.rambo_names.proofs.Sizes.{up_fits, back_fits, next}
use Rattle.rambo_world.proofs.Sendings.{name_of, outline_sent, kept_sent, send_world}
use Rattle.rambo_world.proofs.Single.{refused_told, taken_told, taken_after}
use Rattle.rambo_world.proofs.Turns.{kept_there, judged_at}
use Rattle.rambo_world.proofs.state.State.send.Goals as goal

pub node-requires : goal.node-requires
node-requires g c =
    let nodes = back_fits _ _ _ (next _ _ _ _ (next _ _ _ _ (next _ _ _ _ (up_fits _ _ _ c.requires-raw.1.1)))) in
    (nodes, back_fits _ _ _ (up_fits _ _ _ nodes))

pub may_send-requires : goal.may_send-requires
may_send-requires g c = back_fits _ _ _ (up_fits _ _ _ (back_fits _ _ _ (next _ _ _ _ (next _ _ _ _ (next _ _ _ _ (up_fits _ _ _ c.requires-raw.1.1))))))

pub outline-requires : goal.outline-requires
outline-requires g c = back_fits _ _ _ (next _ _ _ _ (next _ _ _ _ (next _ _ _ _ (up_fits _ _ _ c.requires-raw.1.1))))

pub push-requires : goal.push-requires
push-requires g c = back_fits _ _ _ (next _ _ _ _ (next _ _ _ _ (up_fits _ _ _ c.requires-raw.1.1)))

pub len-requires : goal.len-requires
len-requires g c = back_fits _ _ _ (next _ _ _ _ (next _ _ _ _ (up_fits _ _ _ c.requires-raw.1.1)))

-- the sender refuses it
refused : (g : _) (c : goal.In-Err g) → refusal g.Q.Quorums.system c.args.self.now (step.Send c.args.from c.args.to) ≡ Some c.in-Err.refusal
refused g c =
    let s = g.Q.Quorums.system in
    let st : Step g.row.Q.Denot = step.Send c.args.from c.args.to in
    let w = world_of c.self.inside.nodes c.self.inside.letters c.self.inside.chronicle.events c.self.inside.chronicle.marks in
    subst (λ w. refusal s w st ≡ Some c.in-Err.refusal) c.self.view_is (sym (judged_at s w st c.args.from (act.Send c.args.to) c.node.result.now.state refl c.node.ensures) ∙ c.in-Err.ensures.refused)

pub returns-in-Err-clause-told : goal.returns-in-Err-clause-told
returns-in-Err-clause-told g c = refused_told g.Q.Quorums.system c.args.self.now (step.Send c.args.from c.args.to) c.in-Err.refusal (refused g c)

pub returns-in-Err-clause-after : goal.returns-in-Err-clause-after
returns-in-Err-clause-after g c = sym (after-refused g.Q.Quorums.system c.args.self.now (step.Send c.args.from c.args.to) c.in-Err.refusal (refused g c))

pub returns-in_err-push-clause-accepted : goal.returns-in_err-push-clause-accepted
returns-in_err-push-clause-accepted g c =
    let s = g.Q.Quorums.system in
    let st : Step g.row.Q.Denot = step.Send c.args.from c.args.to in
    let w = world_of c.self.inside.nodes c.self.inside.letters c.self.inside.chronicle.events c.self.inside.chronicle.marks in
    on_err c.from_residual.result (subst (λ w. refusal s w st ≡ None) c.self.view_is (sym (judged_at s w st c.args.from (act.Send c.args.to) c.node.result.now.state refl c.node.ensures) ∙ c.in_default.ensures.ok))

pub invariant_of-self-2 : goal.invariant_of-self-2
invariant_of-self-2 g c =
    let ks = c.self.inside.nodes in
    let k = kept_there ks c.args.from c.node.result.now.state c.node.ensures in
    subst (λ ss. IsKept ks ss c.self.inside.merged) (sym c.in_ok-push.ensures.ok)
    (kept_sent ks c.self.inside.letters c.outline.result c.self.inside.merged c.self.invariant
    (subst (IsSent ks) (sym (c.outline.ensures.sent k.0 k.1)) (outline_sent ks k.0 c.args.from c.args.to k.1 (name_of ks c.args.from k.0 (c.self.invariant.names (c.args.from - 1) k.0 k.1) c.outline.ensures.named.0))))

-- the sender doesn't
accepted : (g : _) (c : goal.After-len g) → refusal g.Q.Quorums.system c.args.self.now (step.Send c.args.from c.args.to) ≡ None
accepted g c =
    let s = g.Q.Quorums.system in
    let st : Step g.row.Q.Denot = step.Send c.args.from c.args.to in
    let w = world_of c.self.inside.nodes c.self.inside.letters c.self.inside.chronicle.events c.self.inside.chronicle.marks in
    subst (λ w. refusal s w st ≡ None) c.self.view_is (sym (judged_at s w st c.args.from (act.Send c.args.to) c.node.result.now.state refl c.node.ensures) ∙ c.in_default.ensures.ok)

-- and the letter is sent
sent : (g : _) (c : goal.After-len g) → turn c.args.self.now (step.Send c.args.from c.args.to)
    ≡ record { world = world_of c.self.inside.nodes c.push.new.self c.self.inside.chronicle.events c.self.inside.chronicle.marks; effect = effect.Sent c.len.result }
sent g c =
    let ks = c.self.inside.nodes in
    let k = kept_there ks c.args.from c.node.result.now.state c.node.ensures in
    ap (λ w. turn w (step.Send c.args.from c.args.to)) (sym c.self.view_is)
    ∙ send_world ks c.self.inside.letters c.push.new.self c.self.inside.chronicle.events c.self.inside.chronicle.marks c.args.from c.args.to c.len.result k.0 c.outline.result k.1 (c.node.ensures ∙ ap Some (sym k.2))
    (name_of ks c.args.from k.0 (c.self.invariant.names (c.args.from - 1) k.0 k.1) c.outline.ensures.named.0) (c.self.invariant.recorded (c.args.from - 1) k.0 k.1)
    (c.outline.ensures.sent k.0 k.1) c.in_ok-push.ensures.ok c.len.ensures

pub returns-clause-told : goal.returns-clause-told
returns-clause-told g c =
    taken_told g.Q.Quorums.system c.args.self.now (step.Send c.args.from c.args.to) (world_of c.self.inside.nodes c.push.new.self c.self.inside.chronicle.events c.self.inside.chronicle.marks) (effect.Sent c.len.result) (accepted g c) (sent g c)

pub returns-clause-after : goal.returns-clause-after
returns-clause-after g c =
    taken_after g.Q.Quorums.system c.args.self.now (step.Send c.args.from c.args.to) (world_of c.self.inside.nodes c.push.new.self c.self.inside.chronicle.events c.self.inside.chronicle.marks) (effect.Sent c.len.result) (accepted g c) (sent g c)
