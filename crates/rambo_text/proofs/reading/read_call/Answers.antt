use Rattle.std.proofs.Common.{◌==◌, [], length, sym, ap, ◌∙◌, true≢false}
use Rattle.rambo_text.proofs.Fronts.{same_call, whole_sign}
use Rattle.rambo_text.proofs.reading.read_call.Goals as goal

pub returns-in_default-clause-none : goal.returns-in_default-clause-none
returns-in_default-clause-none c d h is = c.in_default.ensures.none d [] h (whole_sign _ _ is)

pub returns-else-is_empty-clause-none : goal.returns-else-is_empty-clause-none
returns-else-is_empty-clause-none c d h is =
    let found = c.in-Some.ensures.found in
    let none = same_call _ _ d _ [] found.0 h found.1 (whole_sign _ _ is) in
    true≢false (sym (c.is_empty.ensures ∙ ap (λ r. length r == 0) none) ∙ c.if-is_empty.false)
