use Rattle.rambo_text.proofs.Options.{at_none}
use Rattle.rambo_check.proofs.Counts.{one_alone}
use Rattle.rambo_check.proofs.operands.first_two.Goals as goal

pub returns-in_err-more-2-clause-none : goal.returns-in_err-more-2-clause-none
returns-in_err-more-2-clause-none c =
    at_none c.from_residual-in_err-more-2.result
    (one_alone c.args.more c.in_ok-more.field-0 c.next_word.result.0.now c.next_word.result.1 c.in_ok-more.was c.next_word.ensures c.in_err-more-2.was)
