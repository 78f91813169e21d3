use Rattle.std.proofs.Common.{subst}
use Rattle.std.proofs.lemmas.Result.{on_err_weaker}
use Rattle.rambo_atomic.specs.Streams.{Begins}
use Rattle.rambo_outcome.specs.Notes.{told_text}
use Rattle.rambo_replay.proofs.replaying.EndedRun.write.Goals as goal

pub returns-clause-err : goal.returns-clause-err
returns-clause-err g c =
    on_err_weaker c.write.result
    (λ b. subst (λ h. Begins (g.W.Sink.taken c.args.writer.now) (g.W.Sink.taken c.write.new.writer) (told_text h c.args.self.told)) c.history.ensures b) c.write.ensures.err
