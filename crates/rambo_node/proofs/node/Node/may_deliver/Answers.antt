use Rattle.std.proofs.Common.{◌≡◌, None, Some, OnOk, IfErr, sym, subst}
use Rattle.std.specs.Option.{option_copied}
use Rattle.rambo_node.specs.Acts.{delivery}
use Rattle.rambo_node.specs.Halves.{judged}
use Rattle.rambo_node.proofs.node.Node.may_deliver.Goals as goal

pub returns-in-Some-clause-ok : goal.returns-in-Some-clause-ok
returns-in-Some-clause-ok g c =
    subst (λ o. OnOk c.may_hear_letter.result (judged g.Q.Quorums.system c.args.self.now.state (delivery (option_copied o)) ≡ None)) (sym c.in-Some.is) c.may_hear_letter.ensures.ok

pub returns-in-Some-clause-refused : goal.returns-in-Some-clause-refused
returns-in-Some-clause-refused g c =
    subst (λ o. IfErr c.may_hear_letter.result (λ r. judged g.Q.Quorums.system c.args.self.now.state (delivery (option_copied o)) ≡ Some r)) (sym c.in-Some.is) c.may_hear_letter.ensures.refused
