use Rattle.std.proofs.Common.{◌++◌, ap, subst, ◌∙◌}
use Rattle.std.proofs.lemmas.Result.{on_err_weaker}
use Rattle.rambo_atomic.specs.Streams.{Begins}
use Rattle.rambo_outcome.specs.Notes.{told_text, woven}
use Rattle.rambo_outcome.proofs.told.Told.write.Goals as goal

pub returns-clause-err : goal.returns-clause-err
returns-clause-err g c =
    let text = (λ i. c.self.inside.piece.items ++ (woven (c.events.ensures.events i) c.self.inside.notes ++ c.as_slice.ensures.value i)) ∙ ap (told_text c.args.history.now.events) c.self.view_is in
    on_err_weaker c.write_all_told.result (λ b. subst (Begins (g.W.Sink.taken c.args.writer.now) (g.W.Sink.taken c.write_all_told.new.writer)) text b) c.write_all_told.ensures.err
