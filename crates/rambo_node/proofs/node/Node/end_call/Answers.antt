use Rattle.std.proofs.Common.{sym, ap, ◌∙◌}
use Rattle.std.proofs.lemmas.Option.{same_Some}
use Rattle.rambo_node.specs.declared.effect.Effect.TheVariants as effect
use Rattle.rambo_node.specs.Acts as act
use Rattle.rambo_node.specs.Changes.{made_by, refusal_of}
use Rattle.rambo_node.specs.FullNodes.{beside_after}
use Rattle.rambo_node.proofs.node.Node.end_call.Goals as goal

pub finish_call-requires : goal.finish_call-requires
finish_call-requires g c =
    let s = g.Q.Quorums.system in
    let x = c.args.self.now.state in
    let ready = c.requires.2 in
    let asked = same_Some _ _ (sym c.in-Some.is ∙ c.take.ensures.value ∙ ready.asked) in
    (c.requires-raw.1.1.0, (ap (λ o. refusal_of s x (act.Call o)) asked ∙ ap (refusal_of s x) (sym ready.calls) ∙ c.requires.1, ready.room))

pub returns-clause-node : goal.returns-clause-node
returns-clause-node g c = λ a ready.
    let x = c.args.self.now.state in
    let asked = same_Some _ _ (sym c.in-Some.is ∙ c.take.ensures.value ∙ ready.asked) in
    c.finish_call.ensures.node ∙ ap (λ o. (made_by x (act.Call o)).node) asked ∙ ap (λ a. (made_by x a).node) (sym ready.calls)

pub returns-clause-beside : goal.returns-clause-beside
returns-clause-beside g c = λ a ready.
    let v = c.args.self.now in
    let asked = same_Some _ _ (sym c.in-Some.is ∙ c.take.ensures.value ∙ ready.asked) in
    c.finish_call.ensures.beside ∙ ap (λ o. beside_after v.state v.beside (act.Call o)) asked ∙ ap (beside_after v.state v.beside) (sym ready.calls)

pub returns-clause-effect : goal.returns-clause-effect
unfolding made_by
returns-clause-effect g c = λ a ready.
    (λ i. effect.Called (c.finish_call.ensures.id i)) ∙ sym (ap (λ a. (made_by c.args.self.now.state a).deed.effect) ready.calls)
