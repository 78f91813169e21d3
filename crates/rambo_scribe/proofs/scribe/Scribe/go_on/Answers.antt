use Rattle.std.proofs.Common.{◌≡◌, ◌⊎◌, ◌++◌, [], None, Some, length, inl, inr, refl, sym, ap, ◌∙◌, subst}
use Rattle.std.proofs.lemmas.List.{append-nil}
use Rattle.rambo_scribe.specs.declared.fault.TraceFault.TheVariants.{Drawn}
use Rattle.rambo_scribe.specs.Traced.{HasWritten, taken_by}
use Rattle.rambo_scribe.proofs.Traces.{kept_then, none_so, stops}
use Rattle.rambo_scribe.proofs.scribe.Scribe.go_on.Goals as goal

pub invariant_of-self : goal.invariant_of-self
invariant_of-self g c = (
  c.self.invariant.0,
  λ f e.
      let s = c.self.inside in
      let none : s.fault ≡ None = none_so s.fault (sym c.is_some.ensures ∙ c.if-is_some.false) in
      let whole = subst (HasWritten g.J.Starts.before (taken_by g.W.Sink.taken g.W.Sink.failures s.writer.inner) f s.drawn) none (c.self.invariant.1 f e) in
      let same = (c.draw.ensures.same c.if-not-draw.true).0 in
      subst (λ l. HasWritten g.J.Starts.before (taken_by g.W.Sink.taken g.W.Sink.failures s.writer.inner) f l (Some Drawn)) (sym same) (stops g.J.Starts.before (taken_by g.W.Sink.taken g.W.Sink.failures s.writer.inner) f s.drawn s.drawn ([], append-nil s.drawn) Drawn (λ n. refl) whole),
)

pub invariant_of-self-2 : goal.invariant_of-self-2
invariant_of-self-2 g c = (
  c.self.invariant.0,
  λ f e.
      let s = c.self.inside in
      let before = g.J.Starts.before in
      let taken = taken_by g.W.Sink.taken g.W.Sink.failures in
      let none : s.fault ≡ None = none_so s.fault (sym c.is_some.ensures ∙ c.if-is_some.false) in
      let whole = subst (HasWritten before (taken s.writer.inner) f s.drawn) none (c.self.invariant.1 f e) in
      let all = ap (λ l. s.drawn ++ l) c.as_slice.ensures.value ∙ sym (c.draw.ensures.given c.if-not-draw.false) in
      let written = subst (λ l. HasWritten before (taken c.write_next-fault.new.writer.inner) f l c.write_next-fault.result) all (c.write_next-fault.ensures before f s.drawn whole) in
      c.keep-self-inside.ensures.written before f _ written,
)

pub returns-clause-kept : goal.returns-clause-kept
returns-clause-kept g c =
    let s = c.self.inside in
    let before = g.J.Starts.before in
    let taken = taken_by g.W.Sink.taken g.W.Sink.failures in
    let now = taken c.keep-self-inside.new.writer.inner in
    kept_then g.J.Terms.founders before now (g.W.Durable.kept c.keep-self-inside.new.writer.inner) c.args.kept.now c.draw.new.shown c.keep-self-inside.new.kept c.draw.new.drawn c.keep-self-inside.result
    (c.draw.ensures.shown c.if-not-draw.false)
    (λ f e.
    let none : s.fault ≡ None = none_so s.fault (sym c.is_some.ensures ∙ c.if-is_some.false) in
    let whole = subst (HasWritten before (taken s.writer.inner) f s.drawn) none (c.self.invariant.1 f e) in
    let all = ap (λ l. s.drawn ++ l) c.as_slice.ensures.value ∙ sym (c.draw.ensures.given c.if-not-draw.false) in
    let written = subst (λ l. HasWritten before (taken c.write_next-fault.new.writer.inner) f l c.write_next-fault.result) all (c.write_next-fault.ensures before f s.drawn whole) in
    c.keep-self-inside.ensures.written before f c.draw.new.drawn written)
    c.keep-self-inside.ensures.kept

pub returns-clause-count : goal.returns-clause-count
returns-clause-count g c = λ syncs whole. c.keep-self-inside.ensures.count syncs whole ∙ ap length (c.draw.ensures.shown c.if-not-draw.false)
