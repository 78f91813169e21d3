use Rattle.std.proofs.Common.{rules}
use Rattle.std.proofs.lemmas.Result.{IfOk-at_ok, IfErr-at_err}
use Rattle.rambo_steps.proofs.RunAlong.{first_fault}
use Rattle.rambo_steps.proofs.replaying.founders_in.Goals as goal

pub returns-in_err-founders-clause-fault : goal.returns-in_err-founders-clause-fault
returns-in_err-founders-clause-fault c =
    search (rules, first_fault c.args.version _ _ _ c.first.result c.in_err-founders.field-0.0 c.next_line.ensures c.first.ensures c.in_err-founders.ensures.fault.0 (IfErr-at_err _ c.in_err-founders.ensures.fault.1 c.read_founders.ensures.fault))

pub returns-clause-founders : goal.returns-clause-founders
returns-clause-founders c =
    let found = IfOk-at_ok _ c.in_ok-founders.ensures.ok c.read_founders.ensures.found in
    record { line = _; rest = _; is_first = c.next_line.ensures; founders = found.0; line_is = found.1 }
