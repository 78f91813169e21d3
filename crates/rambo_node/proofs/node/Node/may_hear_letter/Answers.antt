use Rattle.std.proofs.Common.{◌≡◌, None, Some, OnOk, IfErr, ap, ◌∙◌, subst}
use Rattle.std.specs.FinMap as map
use Rattle.rambo_node.specs.Changes.{refusal_of}
use Rattle.rambo_node.proofs.Readiness.{copies_judged}
use Rattle.rambo_node.specs.Acts as act
use Rattle.rambo_node.proofs.node.Node.may_hear_letter.Goals as goal

pub returns-clause-ok : goal.returns-clause-ok
returns-clause-ok g c =
    let s = g.Q.Quorums.system in
    let x = c.args.self.now.state in
    subst (λ o. OnOk c.may_hear.result (o ≡ None)) (ap (λ l. refusal_of s x (act.Hear l)) c.outline.ensures ∙ copies_judged s x c.args.letter.now map.empty) c.may_hear.ensures.ok

pub returns-clause-refused : goal.returns-clause-refused
returns-clause-refused g c =
    let s = g.Q.Quorums.system in
    let x = c.args.self.now.state in
    subst (λ o. IfErr c.may_hear.result (λ r. o ≡ Some r)) (ap (λ l. refusal_of s x (act.Hear l)) c.outline.ensures ∙ copies_judged s x c.args.letter.now map.empty) c.may_hear.ensures.refused
