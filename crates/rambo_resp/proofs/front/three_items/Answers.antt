use Rattle.std.proofs.Common.{sym, ◌∙◌, ◌++◌}
use Rattle.rambo_resp.specs.Spellings.{item_spelling}
use Rattle.rambo_resp.proofs.Briefs.{none_kept, same_behind}
use Rattle.rambo_resp.proofs.front.three_items.Goals as goal

pub returns-in_err-first-clause-none : goal.returns-in_err-first-clause-none
returns-in_err-first-clause-none c =
    none_kept c.from_residual-in_err-first.result _
    (λ name first second rest h k l is.
    c.in_err-first.ensures.none first (item_spelling second ++ rest) k
    (same_behind c.in_ok-name.name.now name c.in_ok-name.behind_name.now (item_spelling first ++ (item_spelling second ++ rest)) c.in_ok-name.ensures.few h (sym c.in_ok-name.ensures.spelled ∙ is)))

pub returns-in_err-second-clause-none : goal.returns-in_err-second-clause-none
returns-in_err-second-clause-none c =
    none_kept c.from_residual-in_err-second.result _
    (λ name first second rest h k l is.
    c.in_err-second.ensures.none second rest l
    (same_behind c.in_ok-first.first.now first c.in_ok-first.behind.now (item_spelling second ++ rest) c.in_ok-first.ensures.few k
    (sym c.in_ok-first.ensures.spelled
    ∙ same_behind c.in_ok-name.name.now name c.in_ok-name.behind_name.now (item_spelling first ++ (item_spelling second ++ rest)) c.in_ok-name.ensures.few h (sym c.in_ok-name.ensures.spelled ∙ is))))
