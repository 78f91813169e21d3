use Rattle.std.proofs.Common.{None, sym, ap, ◌∙◌, subst}
use Rattle.rambo_run.proofs.Lists.{some_inj}
use Rattle.rambo_scribe.specs.Traced.{HasWritten, taken_by}
use Rattle.rambo_scribe.proofs.scribe.Scribe.resumed.Goals as goal

pub invariant_of-result : goal.invariant_of-result
invariant_of-result g c = (
  c.requires.endless,
  λ f e.
      let taken = taken_by g.W.Sink.taken g.W.Sink.failures in
      let before = g.J.Starts.before in
      let founded = some_inj c.args.founders f (sym c.requires.founders ∙ e) in
      subst (λ f. HasWritten before (taken c.new-2.result.inner) f c.args.drawn None) founded
      (subst (λ w. HasWritten before (taken w) c.args.founders c.args.drawn None) (sym c.new-2.ensures) c.requires.written),
)
