use Rattle.std.proofs.Common.{◌≡◌, ◌⊎◌, false, sym, subst, ◌∙◌, true≢false}
use Rattle.rambo_telling.specs.Telling.{stream}
use Rattle.rambo_main.specs.Servers.{Leaves, Traces, Unserved}
use Rattle.rambo_main.proofs.Endings.{bounded, traced}
use Rattle.rambo_main.proofs.loopback.served.Goals.{else-serving-via-then-serving+else-serving-2, else-serving-via-else-serving}
use Rattle.rambo_main.proofs.loopback.served.Goals as goal

pub returns-then-serving-3 : goal.returns-then-serving-3
returns-then-serving-3 g c =
    let s = c.args.serving.now in
    let ending = c.traced.result.0 in
    let write = stream g.W.Sink.taken g.W.Sink.failures c.args.writer c.traced.result.1 in
    let told = stream g.E.Sink.taken g.E.Sink.failures c.args.errors.now c.traced.new.errors in
    let with_trace : s.untraced ≡ false = elim c.else-serving.branch [
      | else-serving-via-then-serving+else-serving-2 w ↦ w.if-serving-2.false
      | else-serving-via-else-serving w ↦ absurd (true≢false (sym c.if-serving-3.true ∙ w.if-serving.false))
    ] in
    traced s.steps c.args.founders ending write told s.endless s.untraced c.if-serving-3.true with_trace
    (subst (λ f. Traces f ending write told ⊎ Unserved ending write told) c.options_of-options.ensures.founders c.traced.ensures)

pub returns : goal.returns
returns g c =
    let s = c.args.serving.now in
    let ending = c.bounded-ending.result in
    let write = stream g.W.Sink.taken g.W.Sink.failures c.args.writer c.bounded-ending.new.writer in
    let told = stream g.E.Sink.taken g.E.Sink.failures c.args.errors.now c.bounded-ending.new.errors in
    bounded s.steps c.args.founders ending write told s.endless s.untraced c.if-serving-3.false
    (subst (λ n. Leaves n c.args.founders ending write told ⊎ Unserved ending write told) c.options_of-options.ensures.steps
    (subst (λ f. Leaves c.options_of-options.result.steps f ending write told ⊎ Unserved ending write told) c.options_of-options.ensures.founders c.bounded-ending.ensures))
