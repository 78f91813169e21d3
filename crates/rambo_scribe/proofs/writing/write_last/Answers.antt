use Rattle.std.proofs.Common.{◌≡◌, ◌++◌, None, refl, sym, ap, ◌∙◌, subst}
use Rattle.rambo_scribe.specs.declared.fault.TraceFault.TheVariants.{Drawn}
use Rattle.rambo_scribe.specs.Traced.{HasWritten, taken_by}
use Rattle.rambo_scribe.proofs.Traces.{stays_so, stops, none_so, rest_so}
use Rattle.rambo_scribe.proofs.writing.write_last.Goals as goal

pub returns-then-is_some : goal.returns-then-is_some
returns-then-is_some g c = λ before f drawn all prefix rest w.
    stays_so before (taken_by g.W.Sink.taken g.W.Sink.failures c.args.writer.now) f drawn all prefix c.args.fault (sym c.is_some.ensures ∙ c.if-is_some.true) w

pub returns-in-Some : goal.returns-in-Some
returns-in-Some g c = λ before f drawn all prefix rest w.
    let none : c.args.fault ≡ None = none_so c.args.fault (sym c.is_some.ensures ∙ c.if-is_some.false) in
    let whole = subst (HasWritten before (taken_by g.W.Sink.taken g.W.Sink.failures c.args.writer.now) f drawn) none w in
    let all_of = ap (λ l. drawn ++ l) c.as_slice.ensures.value ∙ rest_so c.args.rest c.in-Some.rest (λ r. r.items) (λ r. drawn ++ r ≡ all) c.in-Some.is rest in
    subst (λ l. HasWritten before (taken_by g.W.Sink.taken g.W.Sink.failures c.write_next.new.writer) f l c.write_next.result) all_of (c.write_next.ensures before f drawn whole)

pub returns-in-None : goal.returns-in-None
returns-in-None g c = λ before f drawn all prefix rest w.
    let none : c.args.fault ≡ None = none_so c.args.fault (sym c.is_some.ensures ∙ c.if-is_some.false) in
    let whole = subst (HasWritten before (taken_by g.W.Sink.taken g.W.Sink.failures c.args.writer.now) f drawn) none w in
    stops before (taken_by g.W.Sink.taken g.W.Sink.failures c.args.writer.now) f drawn all prefix Drawn (λ n. refl) whole
