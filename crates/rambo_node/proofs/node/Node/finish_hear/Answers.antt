use Rattle.std.proofs.Common.{sym, ap, ◌∙◌, subst}
use Rattle.rambo_gossip.specs.Letters.{kind_with, letter_with}
use Rattle.rambo_gossip.specs.Outlines.{outlined}
use Rattle.rambo_node.specs.Hearing.{heard_kind, heard_letter}
use Rattle.rambo_node.specs.FullNodes.{beside_after, beside_heard}
use Rattle.rambo_node.specs.Prepared.{IsReadyKind}
use Rattle.rambo_node.proofs.Besides.{join_beside}
use Rattle.rambo_node.proofs.node.Node.finish_hear.Goals as goal
use Rattle.rambo_node.specs.Acts as act

pub returns-in-None-clause-state : goal.returns-in-None-clause-state
returns-in-None-clause-state g c =
    let o = c.outline.inside in
    let x = c.args.self.now.state in
    c.meet.ensures.state
    ∙ sym (ap (λ k. heard_kind x o.sender (kind_with (outlined k) c.args.hearing.copies)) c.in-None.is)
    ∙ ap (λ l. heard_letter x (letter_with l c.args.hearing.copies)) c.outline.view_is

pub finish_gossip-requires : goal.finish_gossip-requires
finish_gossip-requires g c =
    let h = c.args.hearing in
    let kind_is = sym (ap (λ l. l.kind) c.outline.view_is) ∙ ap outlined c.in-Some.is in
    (c.requires-raw.1.1.0, subst (λ k. IsReadyKind c.args.self.now k h.copies h.number) kind_is c.requires)

pub returns-in-Some-clause-state : goal.returns-in-Some-clause-state
returns-in-Some-clause-state g c =
    let o = c.outline.inside in
    let x = c.args.self.now.state in
    c.finish_gossip.ensures.state
    ∙ sym (ap (λ k. heard_kind x o.sender (kind_with (outlined k) c.args.hearing.copies)) c.in-Some.is)
    ∙ ap (λ l. heard_letter x (letter_with l c.args.hearing.copies)) c.outline.view_is

pub returns-in-None-clause-beside : goal.returns-in-None-clause-beside
returns-in-None-clause-beside g c =
    let v = c.args.self.now in
    let j = c.outline.inside.sender in
    let copies = c.args.hearing.copies in
    c.meet.ensures.beside ∙ sym (join_beside v.state v.beside j)
    ∙ sym (ap (λ k. beside_heard v.state v.beside j (kind_with (outlined k) copies)) c.in-None.is)
    ∙ ap (λ l. beside_after v.state v.beside (act.Hear (letter_with l copies))) c.outline.view_is

pub returns-in-Some-clause-beside : goal.returns-in-Some-clause-beside
returns-in-Some-clause-beside g c =
    let v = c.args.self.now in
    let j = c.outline.inside.sender in
    let copies = c.args.hearing.copies in
    c.finish_gossip.ensures.beside
    ∙ sym (ap (λ k. beside_heard v.state v.beside j (kind_with (outlined k) copies)) c.in-Some.is)
    ∙ ap (λ l. beside_after v.state v.beside (act.Hear (letter_with l copies))) c.outline.view_is
