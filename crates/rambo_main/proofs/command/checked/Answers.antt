use Rattle.std.proofs.Common.{rules, ap}
use Rattle.rambo_check.specs.Checks.{IsChecked}
use Rattle.rambo_check.specs.Texts.{IsFaultIn}
use Rattle.rambo_telling.specs.Telling.{stream}
use Rattle.rambo_main.proofs.Checked.{fault_ends}
use Rattle.rambo_main.proofs.command.checked.Goals as goal

pub returns-in-Err-clause-ends : goal.returns-in-Err-clause-ends
returns-in-Err-clause-ends g c =
    search (
      rules,
      fault_ends (IsChecked c.args.why) IsFaultIn c.in-Err.fault c.of.result.status
          (stream g.R.Source.left g.R.Source.failures c.args.reader.now c.check_text.new.reader)
          (stream g.W.Sink.taken g.W.Sink.failures c.args.writer.now c.check_text.new.writer)
          (stream g.E.Sink.taken g.E.Sink.failures c.args.errors.now c.tell.new.errors)
          c.in-Err.ensures.script c.in-Err.ensures.read c.in-Err.ensures.other c.in-Err.ensures.write
          (λ other. (ap g.W.Sink.failures (c.in-Err.ensures.unwritten other), ap g.W.Sink.taken (c.in-Err.ensures.unwritten other))),
    )
