use Rattle.std.proofs.Common.{◌≡◌, ◌∙◌, None, Some, sym, ap}
use Rattle.std.proofs.lemmas.Result.{on_ok_weaker, IfErr-weaker}
use Rattle.rambo_names.specs.Refusals.{least}
use Rattle.rambo_node.specs.declared.step.StepOf.TheVariants as step
use Rattle.rambo_run.specs.Steps.{causes_at, letter_in, meant, refusal}
use Rattle.rambo_letters.specs.Kept.{SentState, sent_at}
use Rattle.rambo_world.specs.Kept.{state_at}
use Rattle.rambo_world.specs.Deliveries.{world_of}
use Rattle.rambo_names.proofs.Errors.{err_kept}
use Rattle.rambo_names.proofs.Sizes.{up_fits, back_fits, next}
use Rattle.rambo_world.proofs.Coming.{judged_sent}
use Rattle.rambo_world.proofs.Deliveries.{no_causes}
use Rattle.rambo_node.proofs.QuietSteps.{quiet_means, quiet_else}
use Rattle.rambo_world.proofs.Turns.{judged_now, deliver_refusal}
use Rattle.rambo_world.proofs.state.State.judge.Goals as goal
use Rattle.rambo_node.specs.Acts as act

pub get-requires : goal.get-requires
get-requires g c = back_fits _ _ _ (next _ _ _ _ (next _ _ _ _ (up_fits _ _ _ c.requires-raw.1.1)))

pub node-requires : goal.node-requires
node-requires g c =
    let nodes = back_fits _ _ _ (next _ _ _ _ (next _ _ _ _ (next _ _ _ _ (up_fits _ _ _ c.requires-raw.1.1)))) in
    (nodes, back_fits _ _ _ (up_fits _ _ _ nodes))

pub node-requires-in-Send : goal.node-requires-in-Send
node-requires-in-Send g c =
    let nodes = back_fits _ _ _ (next _ _ _ _ (next _ _ _ _ (next _ _ _ _ (up_fits _ _ _ c.requires-raw.1.1)))) in
    (nodes, back_fits _ _ _ (up_fits _ _ _ nodes))

pub node-requires-in-Advance : goal.node-requires-in-Advance
node-requires-in-Advance g c =
    let nodes = back_fits _ _ _ (next _ _ _ _ (next _ _ _ _ (next _ _ _ _ (up_fits _ _ _ c.requires-raw.1.1)))) in
    (nodes, back_fits _ _ _ (up_fits _ _ _ nodes))

pub node-requires-in-Some : goal.node-requires-in-Some
node-requires-in-Some g c =
    let nodes = back_fits _ _ _ (next _ _ _ _ (next _ _ _ _ (next _ _ _ _ (up_fits _ _ _ c.requires-raw.1.1)))) in
    (nodes, back_fits _ _ _ (up_fits _ _ _ nodes))

pub node-requires-in-Some-quiet_of : goal.node-requires-in-Some-quiet_of
node-requires-in-Some-quiet_of g c =
    let nodes = back_fits _ _ _ (next _ _ _ _ (next _ _ _ _ (next _ _ _ _ (up_fits _ _ _ c.requires-raw.1.1)))) in
    (nodes, back_fits _ _ _ (up_fits _ _ _ nodes))

pub may_call-requires : goal.may_call-requires
may_call-requires g c = back_fits _ _ _ (up_fits _ _ _ (back_fits _ _ _ (next _ _ _ _ (next _ _ _ _ (next _ _ _ _ (up_fits _ _ _ c.requires-raw.1.1))))))

pub may_send-requires : goal.may_send-requires
may_send-requires g c = back_fits _ _ _ (up_fits _ _ _ (back_fits _ _ _ (next _ _ _ _ (next _ _ _ _ (next _ _ _ _ (up_fits _ _ _ c.requires-raw.1.1))))))

pub may_advance-requires : goal.may_advance-requires
may_advance-requires g c = back_fits _ _ _ (up_fits _ _ _ (back_fits _ _ _ (next _ _ _ _ (next _ _ _ _ (next _ _ _ _ (up_fits _ _ _ c.requires-raw.1.1))))))

pub may_hear-requires : goal.may_hear-requires
may_hear-requires g c = back_fits _ _ _ (up_fits _ _ _ (back_fits _ _ _ (next _ _ _ _ (next _ _ _ _ (next _ _ _ _ (up_fits _ _ _ c.requires-raw.1.1))))))

pub may_quiet-requires : goal.may_quiet-requires
may_quiet-requires g c = back_fits _ _ _ (up_fits _ _ _ (back_fits _ _ _ (next _ _ _ _ (next _ _ _ _ (next _ _ _ _ (up_fits _ _ _ c.requires-raw.1.1))))))

pub returns-in-Call-clause-ok : goal.returns-in-Call-clause-ok
returns-in-Call-clause-ok g c =
    on_ok_weaker c.may_call.result (judged_now g.Q.Quorums.system (world_of c.self.inside.nodes c.self.inside.letters c.self.inside.chronicle.events c.self.inside.chronicle.marks) c.args.self.now c.self.view_is c.args.step.now c.in-Call.name (act.Call c.in-Call.op) c.node.result.now.state (ap (meant (world_of c.self.inside.nodes c.self.inside.letters c.self.inside.chronicle.events c.self.inside.chronicle.marks)) c.in-Call.is) c.node.ensures None) c.may_call.ensures.ok

pub returns-in-Call-clause-refused : goal.returns-in-Call-clause-refused
returns-in-Call-clause-refused g c =
    IfErr-weaker c.may_call.result _ _ (λ r. judged_now g.Q.Quorums.system (world_of c.self.inside.nodes c.self.inside.letters c.self.inside.chronicle.events c.self.inside.chronicle.marks) c.args.self.now c.self.view_is c.args.step.now c.in-Call.name (act.Call c.in-Call.op) c.node.result.now.state (ap (meant (world_of c.self.inside.nodes c.self.inside.letters c.self.inside.chronicle.events c.self.inside.chronicle.marks)) c.in-Call.is) c.node.ensures (Some r)) c.may_call.ensures.refused

pub returns-in-Send-clause-ok : goal.returns-in-Send-clause-ok
returns-in-Send-clause-ok g c =
    on_ok_weaker c.may_send.result (judged_now g.Q.Quorums.system (world_of c.self.inside.nodes c.self.inside.letters c.self.inside.chronicle.events c.self.inside.chronicle.marks) c.args.self.now c.self.view_is c.args.step.now c.in-Send.from (act.Send c.in-Send.to) c.node-in-Send.result.now.state (ap (meant (world_of c.self.inside.nodes c.self.inside.letters c.self.inside.chronicle.events c.self.inside.chronicle.marks)) c.in-Send.is) c.node-in-Send.ensures None) c.may_send.ensures.ok

pub returns-in-Send-clause-refused : goal.returns-in-Send-clause-refused
returns-in-Send-clause-refused g c =
    IfErr-weaker c.may_send.result _ _ (λ r. judged_now g.Q.Quorums.system (world_of c.self.inside.nodes c.self.inside.letters c.self.inside.chronicle.events c.self.inside.chronicle.marks) c.args.self.now c.self.view_is c.args.step.now c.in-Send.from (act.Send c.in-Send.to) c.node-in-Send.result.now.state (ap (meant (world_of c.self.inside.nodes c.self.inside.letters c.self.inside.chronicle.events c.self.inside.chronicle.marks)) c.in-Send.is) c.node-in-Send.ensures (Some r)) c.may_send.ensures.refused

pub returns-in_ok-may_advance-in-Advance-clause-ok : goal.returns-in_ok-may_advance-in-Advance-clause-ok
returns-in_ok-may_advance-in-Advance-clause-ok g c =
    judged_now g.Q.Quorums.system (world_of c.self.inside.nodes c.self.inside.letters c.self.inside.chronicle.events c.self.inside.chronicle.marks) c.args.self.now c.self.view_is c.args.step.now c.in-Advance.id.name (act.Advance c.in-Advance.id) c.node-in-Advance.result.now.state (ap (meant (world_of c.self.inside.nodes c.self.inside.letters c.self.inside.chronicle.events c.self.inside.chronicle.marks)) c.in-Advance.is) c.node-in-Advance.ensures None c.in_ok-may_advance-in-Advance.ensures.ok.accepted

pub returns-in_err-may_advance-in-Advance-clause-refused : goal.returns-in_err-may_advance-in-Advance-clause-refused
returns-in_err-may_advance-in-Advance-clause-refused g c =
    err_kept c.from_residual.result _ _ c.from_residual.ensures.1
    (judged_now g.Q.Quorums.system (world_of c.self.inside.nodes c.self.inside.letters c.self.inside.chronicle.events c.self.inside.chronicle.marks) c.args.self.now c.self.view_is c.args.step.now c.in-Advance.id.name (act.Advance c.in-Advance.id) c.node-in-Advance.result.now.state (ap (meant (world_of c.self.inside.nodes c.self.inside.letters c.self.inside.chronicle.events c.self.inside.chronicle.marks)) c.in-Advance.is) c.node-in-Advance.ensures (Some _) c.in_err-may_advance-in-Advance.ensures.refused)

pub returns-in-Some-clause-ok : goal.returns-in-Some-clause-ok
returns-in-Some-clause-ok g c =
    let s = g.Q.Quorums.system in
    let i = c.self.inside in
    let m : SentState _ = record { letter = c.sent.inside.letter; told = c.sent.inside.told } in
    let found : sent_at i.letters c.in-Deliver.number ≡ Some m = sym c.get.ensures ∙ c.in-Some.is ∙ ap Some (sym c.sent.view_is) in
    let here : state_at i.nodes m.letter.addressee ≡ Some c.node-in-Some.result.now.state = ap (λ l. state_at i.nodes l.addressee) (sym c.letter.view_is) ∙ c.node-in-Some.ensures in
    let judged = ap (refusal s c.args.self.now) c.in-Deliver.is ∙ ap (λ w. refusal s w (step.Deliver c.in-Deliver.number)) (sym c.self.view_is)
    ∙ sym (judged_sent s i.nodes i.letters i.chronicle.events i.chronicle.marks c.in-Deliver.number m found) in
    on_ok_weaker c.may_hear.result (λ e. judged ∙ ap (λ o. least (causes_at s o (act.Hear m.letter))) here ∙ e) c.may_hear.ensures.ok

pub returns-in-Some-clause-refused : goal.returns-in-Some-clause-refused
returns-in-Some-clause-refused g c =
    let s = g.Q.Quorums.system in
    let i = c.self.inside in
    let m : SentState _ = record { letter = c.sent.inside.letter; told = c.sent.inside.told } in
    let found : sent_at i.letters c.in-Deliver.number ≡ Some m = sym c.get.ensures ∙ c.in-Some.is ∙ ap Some (sym c.sent.view_is) in
    let here : state_at i.nodes m.letter.addressee ≡ Some c.node-in-Some.result.now.state = ap (λ l. state_at i.nodes l.addressee) (sym c.letter.view_is) ∙ c.node-in-Some.ensures in
    let judged = ap (refusal s c.args.self.now) c.in-Deliver.is ∙ ap (λ w. refusal s w (step.Deliver c.in-Deliver.number)) (sym c.self.view_is)
    ∙ sym (judged_sent s i.nodes i.letters i.chronicle.events i.chronicle.marks c.in-Deliver.number m found) in
    IfErr-weaker c.may_hear.result _ _ (λ r e. judged ∙ ap (λ o. least (causes_at s o (act.Hear m.letter))) here ∙ e) c.may_hear.ensures.refused

pub returns-in-None-clause-refused : goal.returns-in-None-clause-refused
returns-in-None-clause-refused g c =
    let s = g.Q.Quorums.system in
    let i = c.self.inside in
    let number = c.in-Deliver.number in
    ap (refusal s c.args.self.now) c.in-Deliver.is ∙ ap (λ w. refusal s w (step.Deliver number)) (sym c.self.view_is)
    ∙ deliver_refusal s (world_of c.self.inside.nodes c.self.inside.letters c.self.inside.chronicle.events c.self.inside.chronicle.marks) number ∙ ap least (no_causes i.nodes i.letters i.chronicle.events i.chronicle.marks number s (sym c.get.ensures ∙ c.in-None.is))

pub unreachable-requires : goal.unreachable-requires
unreachable-requires g c =
    quiet_else c.args.step.now (sym c.quiet_of.ensures ∙ c.in-None-quiet_of.is) c.in_default.not-Call c.in_default.not-Send c.in_default.not-Deliver c.in_default.not-Advance

pub returns-in-Some-quiet_of : goal.returns-in-Some-quiet_of
returns-in-Some-quiet_of g c =
    let w = world_of c.self.inside.nodes c.self.inside.letters c.self.inside.chronicle.events c.self.inside.chronicle.marks in
    let means = quiet_means (letter_in w.letters c.args.step.now) c.args.step.now c.in-Some-quiet_of.meant (sym c.quiet_of.ensures ∙ c.in-Some-quiet_of.is) in
    record {
      ok = on_ok_weaker c.may_quiet.result (judged_now g.Q.Quorums.system (world_of c.self.inside.nodes c.self.inside.letters c.self.inside.chronicle.events c.self.inside.chronicle.marks) c.args.self.now c.self.view_is c.args.step.now c.in-Some-quiet_of.meant.0 (act.Quietly c.in-Some-quiet_of.meant.1) c.node-in-Some-quiet_of.result.now.state means c.node-in-Some-quiet_of.ensures None) c.may_quiet.ensures.ok;
      refused = IfErr-weaker c.may_quiet.result _ _ (λ r. judged_now g.Q.Quorums.system (world_of c.self.inside.nodes c.self.inside.letters c.self.inside.chronicle.events c.self.inside.chronicle.marks) c.args.self.now c.self.view_is c.args.step.now c.in-Some-quiet_of.meant.0 (act.Quietly c.in-Some-quiet_of.meant.1) c.node-in-Some-quiet_of.result.now.state means c.node-in-Some-quiet_of.ensures (Some r)) c.may_quiet.ensures.refused;
    }
