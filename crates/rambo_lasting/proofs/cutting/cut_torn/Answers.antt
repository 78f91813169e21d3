use Rattle.std.proofs.Common.{◌+◌, [], length, ap, ◌∙◌}
use Rattle.rambo_trace.specs.Traces.{trace_text}
use Rattle.rambo_retrace.specs.declared.retracing.Retraced.{Retraced}
use Rattle.rambo_lasting.proofs.Held.{cut}
use Rattle.rambo_lasting.proofs.cutting.cut_torn.Goals as goal

pub returns-in-Ok-clause-whole : goal.returns-in-Ok-clause-whole
returns-in-Ok-clause-whole g c = λ f steps torn head is held.
    let count = c.in-Some.ensures.1 ∙ ap (λ n. n + c.args.read.now.bytes) head ∙ ap (λ (r : Retraced). length (trace_text f []) + r.bytes) is in
    cut (g.F.Sink.taken c.args.file.now) _ f steps torn c.in-Some.length count c.in-Ok.ensures.taken held
