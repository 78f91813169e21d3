use Rattle.std.proofs.Common.{filter, ap, ◌∙◌}
use Rattle.std.proofs.lemmas.List.{take_all}
use Rattle.rambo_history.specs.Histories.{answer_in}
use Rattle.rambo_atomic.specs.Tests.{tells}
use Rattle.rambo_placing.proofs.Told.{told-on}
use Rattle.rambo_placing.proofs.readers.Readers.of.Goals as goal

pub loop-id-preserved : goal.loop-id-preserved
loop-id-preserved c held =
    told-on (λ d. tells held (answer_in c.args.history.now.events d)) c.args.gets.now c.loop-id.id-index c.id-item.result _ _ _ c.loop-id-test.true c.id-item.is
    (ap (tells held) c.answer.ensures) (c.in_ok-note.ensures.noted held) (c.loop-id.invariant held)

pub returns-clause-readers : goal.returns-clause-readers
returns-clause-readers c held =
    c.loop-id.invariant held
    ∙ ap (filter (λ d. tells held (answer_in c.args.history.now.events d))) (take_all c.loop-id.id-index c.args.gets.now c.loop-id-test.false)
