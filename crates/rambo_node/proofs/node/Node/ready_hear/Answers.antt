use Rattle.std.proofs.lemmas.Grind.{common_steps}
use Rattle.std.proofs.Common.{◌≡◌, ◌&&◌, sym, ap, ◌∙◌, subst, arith}
use Rattle.std.proofs.lemmas.Result.{IfOk-weaker}
use Rattle.rambo_tag.specs.Copies.{joined}
use Rattle.rambo_tag.specs.Stamps.{stamps_merged}
use Rattle.rambo_gossip.specs.Letters.{kind_with, letter_with}
use Rattle.rambo_gossip.specs.Outlines.{outlined, gossip_outlined}
use Rattle.rambo_gossip.specs.Short.{copies_in}
use Rattle.rambo_node.specs.Prepared.{IsReadyGossip, IsReadyKind}
use Rattle.rambo_node.specs.Refusals.{restarts, is_last}
use Rattle.rambo_node.proofs.Judged.{hear_next}
use Rattle.rambo_node.proofs.Memory.{IfOk-both}
use Rattle.rambo_node.proofs.Readiness.{gossip_hearing}
use Rattle.rambo_node.proofs.node.Node.ready_hear.Goals as goal

pub returns-in-None-clause-hearing : goal.returns-in-None-clause-hearing
returns-in-None-clause-hearing g c =
    let v = c.args.self.now in
    let copies = c.args.copies in
    let h = c.ready_join.result in
    let kind_is = sym (ap (λ l. kind_with l.kind copies) c.outline.view_is) ∙ ap (λ o. kind_with (outlined o) copies) c.in-None.is in
    let none = c.ready_join.ensures.none ∙ sym (ap copies_in kind_is) in
    record { ready = subst (λ k. IsReadyKind v k h.copies h.number) (sym kind_is) tt; alike = ap (joined v.state.registers) none; stamped = λ now s. ap (stamps_merged now v.state.registers s) none }

pub ready_gossip-requires : goal.ready_gossip-requires
ready_gossip-requires g c =
    let x = c.args.self.now.state in
    let kind_is = sym (ap (λ l. l.kind) c.outline.view_is) ∙ ap outlined c.in-Some.is in
    (c.requires-raw.1.1.0, sym (ap (λ k. restarts x k && is_last x.number) kind_is) ∙ hear_next x c.args.outline.now.kind c.requires)

pub returns-in-Some-clause-hearing : goal.returns-in-Some-clause-hearing
returns-in-Some-clause-hearing g c =
    let copies = c.args.copies in
    let v = c.ready_gossip.new.self in
    let kind_is = sym (ap (λ l. l.kind) c.outline.view_is) ∙ ap outlined c.in-Some.is in
    let r = c.ready_gossip in
    IfOk-weaker r.result (λ h. IsReadyGossip v (gossip_outlined c.in-Some.gossip) h.copies h.number × (h.copies ≡ copies)) _
    (λ h e. gossip_hearing v (letter_with c.args.outline.now copies) (gossip_outlined c.in-Some.gossip) copies h (ap (λ k. kind_with k copies) kind_is) e.0 e.1)
    (IfOk-both r.result _ _ r.ensures.ready r.ensures.copies)

pub returns-in-Some-clause-join : goal.returns-in-Some-clause-join
returns-in-Some-clause-join g c = grind (arith, common_steps)
