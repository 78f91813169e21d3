use Rattle.rambo_telling.proofs.Told.{told_by}
use Rattle.rambo_telling.proofs.telling.tell_refused.Goals as goal

pub returns-clause-line : goal.returns-clause-line
returns-clause-line g c = told_by c.write_two_numbers.result _ _ c.write_two_numbers.ensures.ok c.write_two_numbers.ensures.err
