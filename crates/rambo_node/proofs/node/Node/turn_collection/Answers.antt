use Rattle.rambo_names.proofs.Sizes.{up_fits, back_fits}
use Rattle.std.proofs.Common.{Some, sym, ap, ◌∙◌}
use Rattle.rambo_gc.specs.declared.gc_move.GcMove.TheVariants.{Propagating, Done}
use Rattle.rambo_gc.specs.Collections.{move_of}
use Rattle.rambo_node.specs.Changes.{collection_turned}
use Rattle.rambo_node.proofs.Judged.{turn_next, turn_there, same_move}
use Rattle.rambo_node.proofs.node.Node.turn_collection.Goals as goal

pub move_collection-requires : goal.move_collection-requires
move_collection-requires g c =
    let s = g.Q.Quorums.system in
    let met = sym (c.would_advance.ensures ∙ ap (λ v. move_of s v.state.map c.args.collection) c.self.view_is) ∙ c.in-Some-Propagating.is ∙ ap Some c.in-Some-Propagating.field-0-is in
    (assumption, (met, turn_next c.args.self.now.state s c.args.collection c.requires.judged c.requires.held met))

pub end_collection-requires : goal.end_collection-requires
end_collection-requires g c =
    let s = g.Q.Quorums.system in
    let met = sym (c.would_advance.ensures ∙ ap (λ v. move_of s v.state.map c.args.collection) c.self.view_is) ∙ c.in-Some-Done.is ∙ ap Some c.in-Some-Done.field-0-is in
    (assumption, met)

pub unreachable-requires : goal.unreachable-requires
unreachable-requires g c =
    let s = g.Q.Quorums.system in
    absurd (turn_there c.args.self.now.state s c.args.collection c.requires.judged c.requires.held
    (sym (c.would_advance.ensures ∙ ap (λ v. move_of s v.state.map c.args.collection) c.self.view_is) ∙ c.in-None.is))

pub returns-in-Some-Propagating-clause-node : goal.returns-in-Some-Propagating-clause-node
returns-in-Some-Propagating-clause-node g c =
    let x = c.args.self.now.state in
    let s = g.Q.Quorums.system in
    let met = sym (c.would_advance.ensures ∙ ap (λ v. move_of s v.state.map c.args.collection) c.self.view_is) ∙ c.in-Some-Propagating.is ∙ ap Some c.in-Some-Propagating.field-0-is in
    c.move_collection.ensures.node ∙ sym (ap (λ v. (collection_turned x c.args.collection v).node) (same_move s x.map c.args.collection Propagating met))

pub returns-in-Some-Propagating-clause-effect : goal.returns-in-Some-Propagating-clause-effect
returns-in-Some-Propagating-clause-effect g c =
    let x = c.args.self.now.state in
    let s = g.Q.Quorums.system in
    let met = sym (c.would_advance.ensures ∙ ap (λ v. move_of s v.state.map c.args.collection) c.self.view_is) ∙ c.in-Some-Propagating.is ∙ ap Some c.in-Some-Propagating.field-0-is in
    c.move_collection.ensures.effect ∙ sym (ap (λ v. (collection_turned x c.args.collection v).effect) (same_move s x.map c.args.collection Propagating met))

pub returns-in-Some-Done-clause-node : goal.returns-in-Some-Done-clause-node
returns-in-Some-Done-clause-node g c =
    let x = c.args.self.now.state in
    let s = g.Q.Quorums.system in
    let met = sym (c.would_advance.ensures ∙ ap (λ v. move_of s v.state.map c.args.collection) c.self.view_is) ∙ c.in-Some-Done.is ∙ ap Some c.in-Some-Done.field-0-is in
    c.end_collection.ensures.node ∙ sym (ap (λ v. (collection_turned x c.args.collection v).node) (same_move s x.map c.args.collection Done met))

pub returns-in-Some-Done-clause-effect : goal.returns-in-Some-Done-clause-effect
returns-in-Some-Done-clause-effect g c =
    let x = c.args.self.now.state in
    let s = g.Q.Quorums.system in
    let met = sym (c.would_advance.ensures ∙ ap (λ v. move_of s v.state.map c.args.collection) c.self.view_is) ∙ c.in-Some-Done.is ∙ ap Some c.in-Some-Done.field-0-is in
    c.end_collection.ensures.effect ∙ sym (ap (λ v. (collection_turned x c.args.collection v).effect) (same_move s x.map c.args.collection Done met))

pub would_advance-requires : goal.would_advance-requires
would_advance-requires g c = back_fits _ _ _ (up_fits _ _ _ c.requires-raw.1.1.0)

pub same-self-in-Some-Done : goal.same-self-in-Some-Done
same-self-in-Some-Done g c = assumption

pub same-self-in-None : goal.same-self-in-None
same-self-in-None g c = assumption

pub unreachable-unreachable : goal.unreachable-unreachable
unreachable-unreachable g c = assumption

pub same-self : goal.same-self
same-self g c = assumption
