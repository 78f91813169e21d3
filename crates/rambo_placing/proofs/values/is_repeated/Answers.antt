use Rattle.std.proofs.Common.{◌≡◌, not, ap, ◌∙◌, sym, rules}
use Rattle.rambo_history.specs.declared.operation.Op.TheVariants as op
use Rattle.rambo_history.specs.declared.event.Event.TheVariants as event
use Rattle.rambo_placing.specs.Values.{is_repeated}
use Rattle.rambo_placing.proofs.Written.{not-not}
use Rattle.rambo_placing.proofs.values.is_repeated.Goals as goal

pub returns-in_ok-note-in-Call-default-Set-clause-repeated : goal.returns-in_ok-note-in-Call-default-Set-clause-repeated
returns-in_ok-note-in-Call-default-Set-clause-repeated c front has =
    let w = c.in-Call-default-Set in
    let is : c.args.event.now ≡ event.Call w.field-0 (op.Set w.key w.value) = search rules in
    ap not c.in_ok-note-in-Call-default-Set.ensures.new ∙ not-not _ ∙ has _ _ ∙ ap (is_repeated front) (sym is)
