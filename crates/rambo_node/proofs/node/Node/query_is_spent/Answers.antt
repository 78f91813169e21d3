use Rattle.std.proofs.Common.{◌≡◌, ◌||◌, false, Some, sym, ap, ◌∙◌}
use Rattle.std.specs.Option.{option_copied}
use Rattle.rambo_history.specs.declared.operation.Op.{Op}
use Rattle.rambo_history.specs.declared.operation.Op.TheVariants as op
use Rattle.rambo_node.specs.Nodes.{NodeState}
use Rattle.rambo_node.specs.Prepared.{sequence_before}
use Rattle.rambo_node.specs.Refusals.{is_last, query_spent, tags_spent}
use Rattle.rambo_node.proofs.node.Node.query_is_spent.Goals as goal

-- a query that has a next number can't go on where its key has no next tag
spent_by_tags : {Q : Type 0} (x : NodeState Q) (o : Op) → is_last x.number ≡ false → is_last (sequence_before x (Some o)) ≡ query_spent x (Some o)
spent_by_tags x (op.Get key) next = sym (ap (λ b. b || false) next)
spent_by_tags x (op.Set key value) next = sym (ap (λ b. b || tags_spent x (op.Set key value)) next)

pub returns-else-is_last : goal.returns-else-is_last
returns-else-is_last g c =
    let x = c.args.self.now.state in
    let is = ap option_copied c.in-Some.is in
    let next = sym (c.is_last.ensures ∙ ap (λ v. is_last v.state.number) c.self.view_is) ∙ c.if-is_last.false in
    c.is_last-else-is_last.ensures ∙ ap is_last (c.requires ∙ ap (sequence_before x) is) ∙ spent_by_tags x c.in-Some.field-0.now next ∙ sym (ap (query_spent x) is)
