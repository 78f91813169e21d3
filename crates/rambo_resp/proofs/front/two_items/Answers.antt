use Rattle.std.proofs.Common.{sym, ◌∙◌, ◌++◌}
use Rattle.rambo_resp.specs.Spellings.{item_spelling}
use Rattle.rambo_resp.proofs.Briefs.{none_kept, same_behind}
use Rattle.rambo_resp.proofs.front.two_items.Goals as goal

pub returns-in_err-word-clause-none : goal.returns-in_err-word-clause-none
returns-in_err-word-clause-none c =
    none_kept c.from_residual-in_err-word.result _
    (λ name word rest h k is. c.in_err-word.ensures.none word rest k (same_behind c.in_ok-name.name.now name c.in_ok-name.behind.now (item_spelling word ++ rest) c.in_ok-name.ensures.few h (sym c.in_ok-name.ensures.spelled ∙ is)))
