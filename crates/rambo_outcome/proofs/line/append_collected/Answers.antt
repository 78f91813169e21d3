use Rattle.std.proofs.lemmas.Grind.{common_steps}
use Rattle.std.proofs.Common.{rules, arith}
use Rattle.rambo_outcome.proofs.line.append_collected.Goals as goal

pub returns-in_err-append_front-clause-ok : goal.returns-in_err-append_front-clause-ok
returns-in_err-append_front-clause-ok c = search rules

pub returns-in_err-append_front-clause-err : goal.returns-in_err-append_front-clause-err
returns-in_err-append_front-clause-err c = search rules

pub returns-in_err-append_front-clause-refused : goal.returns-in_err-append_front-clause-refused
returns-in_err-append_front-clause-refused c = search rules

pub returns-in_err-push-clause-ok : goal.returns-in_err-push-clause-ok
returns-in_err-push-clause-ok c = search rules

pub returns-in_err-push-clause-err : goal.returns-in_err-push-clause-err
returns-in_err-push-clause-err c = grind (arith, common_steps)

pub returns-in_err-push-clause-refused : goal.returns-in_err-push-clause-refused
returns-in_err-push-clause-refused c = search rules

pub returns-clause-err : goal.returns-clause-err
returns-clause-err c = assumption

pub returns-clause-refused : goal.returns-clause-refused
returns-clause-refused c = assumption
