use Rattle.std.proofs.Common.{rules}
use Rattle.std.proofs.lemmas.Result.{IfOk-at_ok, IfErr-at_err}
use Rattle.rambo_lines.proofs.BothVersions.{head_fault, behind_one, behind_two}
use Rattle.rambo_lines.proofs.head.read_head.Goals as goal

pub returns-in_err-version-clause-fault : goal.returns-in_err-version-clause-fault
returns-in_err-version-clause-fault c =
    search (rules, head_fault _ _ _ c.in_err-version.field-0.0 c.next_line.ensures c.in_err-version.ensures.fault.0 (IfErr-at_err _ c.in_err-version.ensures.fault.1 c.version_of.ensures.fault))

pub returns-in-One-clause-found : goal.returns-in-One-clause-found
returns-in-One-clause-found c = behind_one _ _ _ _ c.in-One.is c.next_line.ensures (IfOk-at_ok _ c.in_ok-version.ensures.ok c.version_of.ensures.found)

pub returns-in-Two-clause-found : goal.returns-in-Two-clause-found
returns-in-Two-clause-found c = behind_two _ _ _ _ c.in-Two.is c.next_line.ensures (IfOk-at_ok _ c.in_ok-version.ensures.ok c.version_of.ensures.found)
