use Rattle.rambo_telling.proofs.Told.{told_by}
use Rattle.rambo_telling.proofs.telling.report.Goals as goal

pub returns-clause-line : goal.returns-clause-line
returns-clause-line g c = told_by c.write_words.result _ _ c.write_words.ensures.ok c.write_words.ensures.err
