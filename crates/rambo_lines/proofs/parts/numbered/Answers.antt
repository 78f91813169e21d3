use Rattle.std.proofs.Common.{rules, [], ◌∷◌}
use Rattle.rambo_text.specs.Forms.{Num}
use Rattle.rambo_lines.proofs.Fitting.{count_fault}
use Rattle.rambo_lines.proofs.parts.numbered.Goals as goal

pub returns-in_err-one-clause-fault : goal.returns-in_err-one-clause-fault
returns-in_err-one-clause-fault c = search (rules, count_fault (Num ∷ []) _ _ c.in_err-one.ensures.fault.0 c.in_err-one.ensures.fault.1)
