use Rattle.std.proofs.lemmas.Result.{IfOk-at_ok, IfOk-weaker}
use Rattle.rambo_steps.proofs.RunAlong.{tells_made}
use Rattle.rambo_steps.proofs.replaying.told_of.Goals as goal

pub returns-clause-ok : goal.returns-clause-ok
returns-clause-ok g c =
    IfOk-weaker c.in_memory.result _ _ (λ told is.
    tells_made c.args.version (g.R.Run.running c.args.running.now).state c.args.notes told _ c.new-tail.result.items _ (IfOk-at_ok _ is c.new.ensures.head) (IfOk-at_ok _ is c.new.ensures.notes)
    (IfOk-at_ok _ is c.new.ensures.tail) c.in_ok-end.ensures.ok c.new-tail.ensures.items (IfOk-at_ok _ is c.new.ensures.room) c.history.ensures) c.in_memory.ensures.ok
