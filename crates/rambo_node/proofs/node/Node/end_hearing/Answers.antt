use Rattle.std.proofs.Common.{sym, ap, ◌∙◌}
use Rattle.std.proofs.lemmas.Option.{none-some, same_Some}
use Rattle.std.specs.Option.{option_copied}
use Rattle.rambo_node.specs.Changes.{made_by}
use Rattle.rambo_node.specs.FullNodes.{beside_after}
use Rattle.rambo_node.specs.Halves.{outline_of}
use Rattle.rambo_node.proofs.Readiness.{hearing_beside, hearing_ends, hearing_ready}
use Rattle.rambo_node.proofs.node.Node.end_hearing.Goals as goal

pub returns-in_default-clause-node : goal.returns-in_default-clause-node
returns-in_default-clause-node g c = λ a ready.
    let none = ap (λ o. outline_of (option_copied o)) c.in_default.is in
    absurd (none-some _ (sym none ∙ ready.told))

pub returns-in_default-clause-beside : goal.returns-in_default-clause-beside
returns-in_default-clause-beside g c = λ a ready.
    let none = ap (λ o. outline_of (option_copied o)) c.in_default.is in
    absurd (none-some _ (sym none ∙ ready.told))

pub finish_hear-requires : goal.finish_hear-requires
finish_hear-requires g c =
    let ready = c.requires.1 in
    let is = c.outline.ensures ∙ same_Some _ _ (sym (ap (λ o. outline_of (option_copied o)) c.in-Some.is) ∙ ready.told) in
    (c.requires-raw.1.1.0, hearing_ready c.args.self.now ready.letter _ c.args.hearing is ready.hearing)

pub returns-clause-node : goal.returns-clause-node
unfolding made_by
returns-clause-node g c = λ a ready.
    let is = c.outline.ensures ∙ same_Some _ _ (sym (ap (λ o. outline_of (option_copied o)) c.in-Some.is) ∙ ready.told) in
    c.finish_hear.ensures.state ∙ hearing_ends c.args.self.now ready.letter _ c.args.hearing is ready.hearing ∙ sym (ap (λ a. (made_by c.args.self.now.state a).node) ready.delivers)

pub returns-clause-beside : goal.returns-clause-beside
returns-clause-beside g c = λ a ready.
    let v = c.args.self.now in
    let is = c.outline.ensures ∙ same_Some _ _ (sym (ap (λ o. outline_of (option_copied o)) c.in-Some.is) ∙ ready.told) in
    c.finish_hear.ensures.beside ∙ hearing_beside v ready.letter _ c.args.hearing is ready.hearing ∙ sym (ap (beside_after v.state v.beside) ready.delivers)
