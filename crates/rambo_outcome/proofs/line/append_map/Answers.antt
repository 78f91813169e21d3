use Rattle.std.proofs.lemmas.Grind.{common_steps}
use Rattle.std.proofs.Common.{arith}
use Rattle.rambo_outcome.proofs.line.append_map.Goals as goal

pub returns-in_err-push-clause-err : goal.returns-in_err-push-clause-err
returns-in_err-push-clause-err c = grind (arith, common_steps)

pub returns-in_err-append_configs-clause-err : goal.returns-in_err-append_configs-clause-err
returns-in_err-append_configs-clause-err c = grind (arith, common_steps)
