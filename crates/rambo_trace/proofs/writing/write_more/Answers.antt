use Rattle.std.proofs.Common.{OnErr, OnOk, ◌++◌, subst}
use Rattle.std.specs.Io.KnownBytes.{Appends}
use Rattle.rambo_atomic.specs.Streams.{Begins}
use Rattle.rambo_lines.specs.Scripts.{steps_text}
use Rattle.rambo_trace.proofs.Pieces.{trace_on, trace_off}
use Rattle.rambo_trace.proofs.writing.write_more.Goals as goal

pub returns-clause-ok : goal.returns-clause-ok
returns-clause-ok g c = subst (λ l. OnOk c.write_rest.result (Appends (g.W.Sink.taken c.args.writer.now) (g.W.Sink.taken c.write_rest.new.writer) (l ++ steps_text c.args.steps.now))) c.new.ensures.items c.write_rest.ensures.ok

pub returns-clause-err : goal.returns-clause-err
returns-clause-err g c = subst (λ l. OnErr c.write_rest.result (Begins (g.W.Sink.taken c.args.writer.now) (g.W.Sink.taken c.write_rest.new.writer) (l ++ steps_text c.args.steps.now))) c.new.ensures.items c.write_rest.ensures.err

pub returns-clause-goes_on : goal.returns-clause-goes_on
returns-clause-goes_on g c = λ start founders before a. trace_on c.write_rest.result start _ _ founders before c.args.steps.now a (returns-clause-ok g c)

pub returns-clause-stops : goal.returns-clause-stops
returns-clause-stops g c = λ start founders before a. trace_off c.write_rest.result start _ _ founders before c.args.steps.now a (returns-clause-err g c)
