use Rattle.std.proofs.Common.{sym, subst}
use Rattle.rambo_telling.specs.Telling.{stream, Tells, fault_line}
use Rattle.rambo_telling.proofs.Told.{told_by}
use Rattle.rambo_telling.proofs.telling.tell.Goals as goal

pub returns-in-Script-clause-line : goal.returns-in-Script-clause-line
returns-in-Script-clause-line g c =
    let s = stream g.E.Sink.taken g.E.Sink.failures c.args.errors.now c.write_line.new.errors in
    subst (λ f. Tells (fault_line f) s) (sym c.in-Script.is) (told_by c.write_line.result _ s c.write_line.ensures.ok c.write_line.ensures.err)

pub returns-in-Read-clause-line : goal.returns-in-Read-clause-line
returns-in-Read-clause-line g c =
    subst (λ f. Tells (fault_line f) (stream g.E.Sink.taken g.E.Sink.failures c.args.errors.now c.tell_stream.new.errors)) (sym c.in-Read.is) c.tell_stream.ensures.line

pub returns-in-Write-clause-line : goal.returns-in-Write-clause-line
returns-in-Write-clause-line g c =
    subst (λ f. Tells (fault_line f) (stream g.E.Sink.taken g.E.Sink.failures c.args.errors.now c.tell_stream-in-Write.new.errors)) (sym c.in-Write.is) c.tell_stream-in-Write.ensures.line

pub returns-in-Memory-clause-line : goal.returns-in-Memory-clause-line
returns-in-Memory-clause-line g c =
    subst (λ f. Tells (fault_line f) (stream g.E.Sink.taken g.E.Sink.failures c.args.errors.now c.tell_stream-in-Memory.new.errors)) (sym c.in-Memory.is) c.tell_stream-in-Memory.ensures.line
