use Rattle.std.proofs.Common.{◌≡◌, ◌++◌, All, IfSome, sym, ap, ◌∙◌, subst}
use mathlib.Core.List.{IsPrefix}
use Rattle.rambo_names.specs.Weights.{weighted_majorities}
use Rattle.rambo_run.specs.Legal.{IsLegal}
use Rattle.rambo_scribe.specs.Traced.{HasWritten, WrittenView, taken_by}
use Rattle.rambo_scribe.proofs.scribe.Scribe.end.Goals as goal

pub new-requires-clause-legal : goal.new-requires-clause-legal
new-requires-clause-legal g c = λ f e. subst (IsLegal weighted_majorities f) (sym c.into_parts-seen.ensures.seen) (c.end.ensures.legal f e)

pub new-requires-clause-written : goal.new-requires-clause-written
new-requires-clause-written g c = λ f e.
    let drawn = c.self.inside.drawn in
    let seen = sym c.into_parts-seen.ensures.seen in
    let prefix = subst (IsPrefix drawn) seen c.end.ensures.drawn in
    let rest = subst (λ o. IfSome o (λ r. drawn ++ r ≡ c.into_parts-seen.result.0)) (sym c.into_parts-seen.ensures.rest) (subst (λ l. IfSome c.end.result.rest (λ r. drawn ++ r ≡ l)) seen c.end.ensures.rest) in
    let taken = taken_by g.W.Sink.taken g.W.Sink.failures in
    subst (λ w. HasWritten g.J.Starts.before (taken w) f c.into_parts-seen.result.0 c.write_last-fault.result) (sym c.into_inner.ensures)
    (c.write_last-fault.ensures g.J.Starts.before f drawn c.into_parts-seen.result.0 prefix rest (c.self.invariant.1 f e))

pub returns : goal.returns
returns g c =
    let all = sym c.into_parts-seen.ensures.seen ∙ sym (ap (λ (v : WrittenView). v.all) c.new.ensures) in
    record {
      all = subst (λ l. All (λ p. IsPrefix p.seen l) c.args.passes.items) all c.end.ensures.begins;
      drawn = subst (λ d. IsPrefix d c.new.result.all) (ap (λ v. v.drawn) c.self.view_is) (subst (IsPrefix c.self.inside.drawn) all c.end.ensures.drawn);
      once = subst (IsPrefix c.args.once) all c.end.ensures.shown;
    }
