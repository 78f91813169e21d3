use Rattle.std.proofs.Common.{◌==◌, [], length, sym, ap, ◌∙◌, true≢false, arith}
use Rattle.rambo_text.proofs.Fronts.{same_num, whole_sign}
use Rattle.rambo_text.proofs.reading.read_name.Goals as goal

pub returns-in_default-clause-none : goal.returns-in_default-clause-none
returns-in_default-clause-none c n h is = c.in_default.ensures.none n [] h (whole_sign _ _ is)

pub returns-else-is_empty-clause-none : goal.returns-else-is_empty-clause-none
returns-else-is_empty-clause-none c n h is =
    let found = c.in-Some.ensures.found in
    let none = (same_num _ _ n _ [] (omega (arith, found.0)) (omega arith) found.1 (whole_sign _ _ is)).1 in
    true≢false (sym (c.is_empty.ensures ∙ ap (λ r. length r == 0) none) ∙ c.if-is_empty.false)
