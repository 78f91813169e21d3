use Rattle.std.proofs.Common.{rules, ap, ◌⊎◌}
use Rattle.rambo_check.specs.Placings.{IsPlaced, IsRepeatedIn}
use Rattle.rambo_check.specs.Texts.{IsFaultIn}
use Rattle.rambo_telling.specs.Telling.{stream}
use Rattle.rambo_main.proofs.Checked.{fault_ends}
use Rattle.rambo_main.proofs.command.placed.Goals as goal

pub returns-in-Err-clause-ends : goal.returns-in-Err-clause-ends
returns-in-Err-clause-ends g c =
    search (
      rules,
      fault_ends (IsPlaced c.args.telling) (λ text f. IsFaultIn text f ⊎ IsRepeatedIn text f) c.in-Err.fault c.of.result.status
          (stream g.R.Source.left g.R.Source.failures c.args.reader.now c.place_text.new.reader)
          (stream g.W.Sink.taken g.W.Sink.failures c.args.writer.now c.place_text.new.writer)
          (stream g.E.Sink.taken g.E.Sink.failures c.args.errors.now c.tell.new.errors)
          c.in-Err.ensures.script c.in-Err.ensures.read c.in-Err.ensures.other c.in-Err.ensures.write
          (λ other. (ap g.W.Sink.failures (c.in-Err.ensures.unwritten other), ap g.W.Sink.taken (c.in-Err.ensures.unwritten other))),
    )
