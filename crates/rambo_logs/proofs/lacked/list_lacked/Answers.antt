use Rattle.std.proofs.lemmas.Grind.{common_steps}
use Rattle.std.proofs.Common.{◌∙◌, sym, arith}
use Rattle.rambo_logs.specs.Stored.{is_lacked}
use Rattle.rambo_logs.proofs.Lacking.{some_pass}
use Rattle.rambo_logs.proofs.lacked.list_lacked.Goals as goal

pub returns-in_err-push-clause-idle : goal.returns-in_err-push-clause-idle
returns-in_err-push-clause-idle c =
    some_pass (is_lacked c.args.puts.now c.args.hints.now c.args.node) c.args.entries.now c.loop-entry.entry-index (record { place = 0; number = 0 }) c.loop-entry-test.true
    (sym c.is_lacked.ensures ∙ c.if-is_lacked.true)

pub loop-entry-preserved : goal.loop-entry-preserved
loop-entry-preserved c = grind (arith, common_steps)

pub returns-clause-ok : goal.returns-clause-ok
returns-clause-ok c = grind (arith, common_steps)
