use Rattle.std.proofs.Common.{rules}
use Rattle.rambo_replay.proofs.AfterRun.{left_after, left_unwritten}
use Rattle.rambo_replay.proofs.replaying.replay.Goals as goal

pub returns-in_err-ended-clause-left : goal.returns-in_err-ended-clause-left
returns-in_err-ended-clause-left g c =
    search (
      rules,
      left_unwritten _ (g.R.Source.left c.args.reader.now) (g.W.Sink.taken c.args.writer.now) c.in_err-ended.ensures.script c.in_err-ended.ensures.unwritten,
    )

pub returns-in_err-write-clause-left : goal.returns-in_err-write-clause-left
returns-in_err-write-clause-left g c =
    let told = c.in_ok-ended.ensures.ok in
    search (rules, left_after _ _ _ _ _ _ c.in_err-write.ensures.fault.0 told.1 told.2 c.in_err-write.ensures.err)
