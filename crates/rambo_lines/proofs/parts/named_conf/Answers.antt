use Rattle.std.proofs.Common.{rules, [], ◌∷◌}
use Rattle.rambo_text.specs.Forms.{Name, Conf}
use Rattle.rambo_lines.proofs.Fitting.{count_fault}
use Rattle.rambo_lines.proofs.parts.named_conf.Goals as goal

pub returns-in_err-name-clause-fault : goal.returns-in_err-name-clause-fault
returns-in_err-name-clause-fault c = search (rules, count_fault (Name ∷ Conf ∷ []) _ _ c.in_err-name.ensures.fault.0 c.in_err-name.ensures.fault.1)
