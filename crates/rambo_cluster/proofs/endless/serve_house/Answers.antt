use Rattle.rambo_scribe.specs.Traced.{taken_by}
use Rattle.rambo_cluster.proofs.endless.serve_house.Goals as goal

pub returns-clause-written : goal.returns-clause-written
returns-clause-written g c =
    let end = c.end-writer.ensures in
    let taken = taken_by g.W.Sink.taken g.W.Sink.failures in
    (end.0, end.1, end.2, c.fault_if.ensures.written g.J.Starts.before (taken c.end-writer.result.0) c.args.founders end.0 end.3)
