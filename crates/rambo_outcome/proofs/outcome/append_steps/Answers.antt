use Rattle.std.proofs.Common.{◌≡◌, sym, subst, ◌+◌}
use Rattle.std.proofs.lemmas.Result.{MatchResult-from_err}
use Rattle.rambo_text.specs.Signs.{Grows}
use Rattle.rambo_check.specs.Lines.{items_text}
use Rattle.rambo_outcome.specs.Outcomes.{step_items}
use Rattle.rambo_outcome.proofs.Loops.{step_on, grows_on}
use Rattle.rambo_outcome.proofs.outcome.append_steps.Goals as goal

pub returns-in_err-write_step-clause-err : goal.returns-in_err-write_step-clause-err
returns-in_err-write_step-clause-err c =
    let same : c.write_step.new.out.items ≡ c.loop-place.out.items = c.in_err-write_step.ensures.err in
    MatchResult-from_err c.from_residual.result _ _ c.from_residual.ensures.0 (λ _. subst (Grows c.args.out.now.items) (sym same) c.loop-place.invariant.front)

pub loop-place-preserved : goal.loop-place-preserved
loop-place-preserved c = record {
  text = step_on c.args.history.now.events c.args.results.now c.loop-place.place c.index-results-place.result c.loop-place.out.items c.write_step.new.out.items _ c.loop-place-test.true
      c.index-results-place.is c.in_ok-write_step.ensures.ok c.loop-place.invariant.text;
  front = grows_on _ c.loop-place.out.items c.write_step.new.out.items (items_text (step_items c.args.history.now.events (c.loop-place.place + 1) c.index-results-place.result)) c.in_ok-write_step.ensures.ok
      c.loop-place.invariant.front;
}
