use Rattle.std.proofs.Common.{sym, subst}
use Rattle.rambo_node.specs.Halves.{IsReadyStep, outline_of}
use Rattle.rambo_node.proofs.node.Node.finish.Goals as goal

pub end-requires : goal.end-requires
end-requires g c =
    let p = c.args.prepared in
    (c.requires-raw.1.1.0, (c.requires.0, subst (λ o. IsReadyStep g.Q.Quorums.system c.args.self.now (outline_of o) c.requires.0 p.half) (sym c.as_ref.ensures.value) c.requires.1))

pub returns-clause-node : goal.returns-clause-node
returns-clause-node g c = λ a ready.
    c.end.ensures.node a (subst (λ o. IsReadyStep g.Q.Quorums.system c.args.self.now (outline_of o) a c.args.prepared.half) (sym c.as_ref.ensures.value) ready)

pub returns-clause-beside : goal.returns-clause-beside
returns-clause-beside g c = λ a ready.
    c.end.ensures.beside a (subst (λ o. IsReadyStep g.Q.Quorums.system c.args.self.now (outline_of o) a c.args.prepared.half) (sym c.as_ref.ensures.value) ready)

pub returns-clause-effect : goal.returns-clause-effect
returns-clause-effect g c = λ a ready.
    c.end.ensures.effect a (subst (λ o. IsReadyStep g.Q.Quorums.system c.args.self.now (outline_of o) a c.args.prepared.half) (sym c.as_ref.ensures.value) ready)
