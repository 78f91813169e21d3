use Rattle.std.proofs.Common.{◌∙◌}
use Rattle.rambo_scribe.specs.Traced.{taken_by}
use Rattle.rambo_scribe.proofs.Traces.{broken}
use Rattle.rambo_scribe.proofs.writing.write_next.Goals as goal

pub returns-in-Ok : goal.returns-in-Ok
returns-in-Ok g c = λ before f drawn w. (c.in-Ok.ensures.goes_on before.bytes f drawn w.0, c.in-Ok.ensures.fine ∙ w.1)

pub returns-in-Err : goal.returns-in-Err
returns-in-Err g c = λ before f drawn w.
    broken before (taken_by g.W.Sink.taken g.W.Sink.failures c.write_more.new.writer) f _ (g.W.Sink.failures c.args.writer.now) c.in-Err.fault c.of.result c.of.ensures w.1
    (c.in-Err.ensures.stops before.bytes f drawn w.0) c.in-Err.ensures.fault
