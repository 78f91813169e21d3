use Rattle.std.proofs.Common.{ap, ◌∙◌}
use Rattle.rambo_atomic.specs.Tests.{keeps_real_time}
use Rattle.rambo_history.proofs.Pushes.{uncalled, uncalled-unanswered}
use Rattle.rambo_atomic.proofs.RealTime.{unknown-call}
use Rattle.rambo_atomic.proofs.rules.keeps_real_time.Goals as goal

pub loop-id-preserved : goal.loop-id-preserved
loop-id-preserved c =
    let h = c.args.history.now.events in
    let none = c.in_default-places_of.ensures in
    c.loop-id.invariant
    ∙ ap (keeps_real_time h c.loop-id.latest) c.in-Some.ensures.cases.0
    ∙ unknown-call h c.loop-id.latest c.in-Some.id.now c.in-Some.others.now
    (uncalled-unanswered h none.well_formed c.in-Some.id.now none.places) (uncalled h c.in-Some.id.now none.places)
