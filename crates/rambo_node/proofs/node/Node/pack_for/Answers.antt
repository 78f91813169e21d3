use Rattle.std.proofs.Common.{ap, ◌∙◌, subst}
use Rattle.std.proofs.lemmas.Result.{IfOk-weaker}
use Rattle.rambo_tag.specs.Stamps.{IsSince}
use Rattle.rambo_node.specs.Nodes.{heard_from}
use Rattle.rambo_node.proofs.node.Node.pack_for.Goals as goal

pub returns-clause-since : goal.returns-clause-since
returns-clause-since g c =
    let base = c.of.ensures ∙ ap (λ v. heard_from v.beside.bases c.args.to) c.self.view_is in
    IfOk-weaker c.pack_since.result _ _ (λ p h. subst (λ v. IsSince v.state.registers v.beside.stamps (heard_from c.args.self.now.beside.bases c.args.to) p) c.self.view_is (subst (λ n. IsSince (g.S.Replica.copies c.self.inside.registers) (g.S.Replica.stamps c.self.inside.registers) n p) base h)) c.pack_since.ensures.since
