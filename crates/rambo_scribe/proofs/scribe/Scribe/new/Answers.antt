use Rattle.std.proofs.Common.{[], sym, ap, ◌∙◌, subst}
use Rattle.rambo_run.proofs.Lists.{some_inj}
use Rattle.rambo_scribe.specs.Traced.{HasWritten, taken_by}
use Rattle.rambo_scribe.proofs.scribe.Scribe.new.Goals as goal

pub invariant_of-result : goal.invariant_of-result
invariant_of-result g c = (
  c.requires.endless,
  λ f e.
      let taken = taken_by g.W.Sink.taken g.W.Sink.failures in
      let now = taken c.write_first-fault.new.writer.inner in
      let fault = c.write_first-fault.result in
      let before = ap taken c.new-writer.ensures ∙ c.requires.before in
      let founded = some_inj c.args.founders f (sym c.requires.founders ∙ e) in
      subst (λ drawn. HasWritten g.J.Starts.before now f drawn fault) (sym c.drawing.ensures)
      (subst (λ f. HasWritten g.J.Starts.before now f [] fault) founded (subst (λ b. HasWritten b now c.args.founders [] fault) before c.write_first-fault.ensures)),
)
