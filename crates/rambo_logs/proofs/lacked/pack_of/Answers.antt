use Rattle.std.proofs.lemmas.Grind.{common_steps}
use Rattle.std.proofs.Common.{◌∙◌, ap, arith}
use Rattle.std.proofs.lemmas.List.{take_all}
use Rattle.rambo_tag.specs.Logs.{greatest_of}
use Rattle.rambo_logs.specs.Stored.{copies_of}
use Rattle.rambo_logs.proofs.lacked.pack_of.Goals as goal

pub returns-clause-ok : goal.returns-clause-ok
returns-clause-ok c =
    let all = c.loop-entry.invariant ∙ ap (copies_of c.args.puts.now.items) (take_all c.loop-entry.entry-index c.args.entries.now c.loop-entry-test.false) in
    c.new-2.ensures ∙ ap greatest_of all

pub loop-entry-init : goal.loop-entry-init
loop-entry-init c = c.reserve.ensures.items ∙ c.new-copies.ensures.items

pub loop-entry-preserved : goal.loop-entry-preserved
loop-entry-preserved c = grind (arith, common_steps)

pub index-requires : goal.index-requires
index-requires c = grind (arith, common_steps)

pub returns-in_err-clone-clause-idle : goal.returns-in_err-clone-clause-idle
returns-in_err-clone-clause-idle c = grind (arith, common_steps)

pub returns-in_err-push-clause-idle : goal.returns-in_err-push-clause-idle
returns-in_err-push-clause-idle c = grind (arith, common_steps)
