use Rattle.std.proofs.Common.{length, sym, ◌∙◌}
use Rattle.rambo_resp.proofs.ByteTests.{same}
use Rattle.rambo_resp.proofs.Runs.{all_read}
use Rattle.rambo_resp.proofs.progress.Progress.read.Goals as goal

pub returns-clause-ok : goal.returns-clause-ok
returns-clause-ok c =
    sym c.loop-rest.invariant.same ∙ all_read c.loop-rest.self c.loop-rest.rest.now (same (length c.loop-rest.rest.now) 0 (sym c.is_empty.ensures ∙ c.loop-rest-test.false))
