use Rattle.std.proofs.Common.{arith, sym, ◌∙◌}
use Rattle.rambo_resp.proofs.Briefs.{behind_count, not_two, not_three, none_then}
use Rattle.rambo_resp.proofs.front.brief_command.Goals as goal

pub returns-in-2-clause-none : goal.returns-in-2-clause-none
returns-in-2-clause-none c =
    let count = c.in_ok-count in
    none_then c.two_items.result _ _ (λ none items rest short is.
    let b = behind_count count.count c.args.bytes.now count.items.now items rest (omega (arith, count.ensures.few.1)) count.ensures.spelled short is in
    not_two count.items.now none items rest (sym c.in-2.is ∙ b.0) short.brief b.1) c.two_items.ensures.none

pub returns-in-3-clause-none : goal.returns-in-3-clause-none
returns-in-3-clause-none c =
    let count = c.in_ok-count in
    none_then c.three_items.result _ _ (λ none items rest short is.
    let b = behind_count count.count c.args.bytes.now count.items.now items rest (omega (arith, count.ensures.few.1)) count.ensures.spelled short is in
    not_three count.items.now none items rest (sym c.in-3.is ∙ b.0) short.brief b.1) c.three_items.ensures.none

pub returns-in_default-clause-none : goal.returns-in_default-clause-none
returns-in_default-clause-none c = λ items rest short is.
    let count = c.in_ok-count in
    let b = behind_count count.count c.args.bytes.now count.items.now items rest (omega (arith, count.ensures.few.1)) count.ensures.spelled short is in
    omega (arith, b.0, short.some, short.few, c.in_default)
