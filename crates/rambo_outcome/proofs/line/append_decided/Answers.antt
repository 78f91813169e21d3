use Rattle.std.proofs.lemmas.Grind.{common_steps}
use Rattle.std.proofs.Common.{arith}
use Rattle.rambo_outcome.proofs.line.append_decided.Goals as goal

pub returns-in_err-push-clause-err : goal.returns-in_err-push-clause-err
returns-in_err-push-clause-err c = grind (arith, common_steps)

pub returns-in_err-push-2-clause-err : goal.returns-in_err-push-2-clause-err
returns-in_err-push-2-clause-err c = grind (arith, common_steps)

pub returns-in_err-write_standing-clause-err : goal.returns-in_err-write_standing-clause-err
returns-in_err-write_standing-clause-err c = grind (arith, common_steps)
