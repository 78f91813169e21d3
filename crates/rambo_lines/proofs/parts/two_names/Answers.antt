use Rattle.std.proofs.Common.{rules, [], ◌∷◌}
use Rattle.rambo_text.specs.Forms.{Name}
use Rattle.rambo_lines.proofs.Fitting.{count_fault}
use Rattle.rambo_lines.proofs.parts.two_names.Goals as goal

pub returns-in_err-from-clause-fault : goal.returns-in_err-from-clause-fault
returns-in_err-from-clause-fault c = search (rules, count_fault (Name ∷ Name ∷ []) _ _ c.in_err-from.ensures.fault.0 c.in_err-from.ensures.fault.1)
