use Rattle.std.proofs.Common.{◌++◌, cond, sym, ap, ◌∙◌, codes}
use Rattle.rambo_history.specs.Calls.{key_of}
use Rattle.rambo_check.specs.Reasons.{shown}
use Rattle.rambo_check.proofs.Grown.{grown}
use Rattle.rambo_check.proofs.reasons.write_strange.Goals as goal

pub returns-in_ok-write_shown-clause-ok : goal.returns-in_ok-write_shown-clause-ok
returns-in_ok-write_shown-clause-ok c =
    let old = c.args.out.now.items in
    let one = c.extend_from_slice-else-is_of.new.self.items in
    let two = c.write_shown.new.out.items in
    let key = key_of c.args.op.now in
    grown old one two (codes " and is a call of ") (shown key) c.in_ok-extend_from_slice-2.ensures.items
    (c.in_ok-write_shown.ensures.ok ∙ ap (λ k. one ++ shown k) (c.as_slice.ensures ∙ c.key.ensures))
    ∙ ap (λ t. old ++ cond t (codes " and is a get without an answer") (codes " and is a call of " ++ shown key)) (sym c.if-is_of.false ∙ c.is_of.ensures)
