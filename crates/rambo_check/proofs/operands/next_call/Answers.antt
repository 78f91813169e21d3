use Rattle.std.specs.Option.{option_copied}
use Rattle.rambo_text.proofs.Options.{at_none}
use Rattle.rambo_check.proofs.LineWords.{call_is_word, no_call_is_word}
use Rattle.rambo_check.proofs.operands.next_call.Goals as goal

pub returns-clause-found : goal.returns-clause-found
returns-clause-found c =
    let found = c.in-Some.ensures.found in
    (found.0, call_is_word c.args.line.now c.in-Some.id c.in-Some.behind.now (option_copied c.in_ok-more.more) found.0 found.1.whole c.in_ok-more.ensures.found)

pub returns-in_err-more-clause-none : goal.returns-in_err-more-clause-none
returns-in_err-more-clause-none c =
    let found = c.in-Some.ensures.found in
    let ends = c.in_err-more.ensures.none in
    at_none c.from_residual.result (λ d more is. no_call_is_word c.args.line.now c.in-Some.id d c.in-Some.behind.now more found.0 found.1 ends.0 ends.1 is)
