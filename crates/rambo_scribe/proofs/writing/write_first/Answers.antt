use Rattle.std.proofs.Common.{[], refl}
use Rattle.rambo_scribe.specs.Traced.{taken_by}
use Rattle.rambo_scribe.proofs.Traces.{broken}
use Rattle.rambo_scribe.proofs.writing.write_first.Goals as goal

pub returns-in-Err : goal.returns-in-Err
returns-in-Err g c =
    broken (taken_by g.W.Sink.taken g.W.Sink.failures c.args.writer.now) (taken_by g.W.Sink.taken g.W.Sink.failures c.write_head.new.writer) c.args.founders [] (g.W.Sink.failures c.args.writer.now) c.in-Err.fault c.of.result c.of.ensures refl
    c.in-Err.ensures.err c.in-Err.ensures.fault
