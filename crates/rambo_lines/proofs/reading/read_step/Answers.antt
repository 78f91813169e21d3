use Rattle.std.proofs.lemmas.Result.{IfOk-weaker, IfErr-weaker}
use Rattle.rambo_lines.proofs.Fitting.{line_step, line_fault}
use Rattle.rambo_lines.proofs.reading.read_step.Goals as goal

pub returns-clause-found : goal.returns-clause-found
returns-clause-found c =
    IfOk-weaker c.read_words.result _ _ (λ st tell. line_step _ _ _ st c.if-line-gt-LINE_LIMIT.false c.next_word.ensures tell) c.read_words.ensures.found

pub returns-clause-fault : goal.returns-clause-fault
returns-clause-fault c =
    IfErr-weaker c.read_words.result _ _ (λ f none. line_fault _ _ _ f c.if-line-gt-LINE_LIMIT.false c.next_word.ensures none) c.read_words.ensures.fault
