use Rattle.std.proofs.Common.{rules, ◌≡◌, List, ℕ, [], ◌∷◌, ◌++◌, sym, ap, subst, arith, ◌∙◌}
use Rattle.std.proofs.lemmas.List.{take_all}
use Rattle.std.proofs.lemmas.Result.{on_err_weaker, on_ok_weaker}
use Rattle.std.specs.Io.KnownBytes.{Appends}
use Rattle.rambo_atomic.specs.Streams.{Begins}
use Rattle.rambo_lines.specs.StepLines.{step_line}
use Rattle.rambo_trace.proofs.Pieces.{gone_whole, begun, begun_longer, begun_more, goes_next, when_ok}
use Rattle.rambo_trace.proofs.writing.write_rest.Goals as goal

pub returns-in_err-in_memory-clause-err : goal.returns-in_err-in_memory-clause-err
returns-in_err-in_memory-clause-err g c =
    search (rules, begun c.args.piece.items c.args.steps.now (g.W.Sink.taken c.args.writer.now) (g.W.Sink.taken c.loop-step.writer) c.loop-step.piece.items c.loop-step.step-index c.loop-step.invariant.0)

pub returns-in_err-write_if_long-clause-err : goal.returns-in_err-write_if_long-clause-err
returns-in_err-write_if_long-clause-err g c =
    let grown = when_ok c.step_text.result _ _ c.in_ok-in_memory.ensures.ok c.step_text.ensures.ok in
    search (
      rules,
      begun_longer c.args.piece.items c.args.steps.now (g.W.Sink.taken c.args.writer.now) (g.W.Sink.taken c.loop-step.writer) c.loop-step.piece.items c.loop-step.step-index c.loop-step.invariant.0
          c.step-item.result c.step_text.new.out.items (g.W.Sink.taken c.write_if_long.new.writer) (omega arith) (grown ∙ ap (λ st. c.loop-step.piece.items ++ step_line st ++ 10 ∷ []) c.step-item.is) c.in_err-write_if_long.ensures.err,
    )

pub loop-step-preserved : goal.loop-step-preserved
loop-step-preserved g c =
    let grown = when_ok c.step_text.result _ _ c.in_ok-in_memory.ensures.ok c.step_text.ensures.ok in (
      goes_next c.args.piece.items c.args.steps.now (g.W.Sink.taken c.args.writer.now) (g.W.Sink.taken c.loop-step.writer) c.loop-step.piece.items c.loop-step.step-index c.loop-step.invariant.0
          c.step-item.result c.step_text.new.out.items c.write_if_long.new.piece.items (g.W.Sink.taken c.write_if_long.new.writer) (omega arith) (grown ∙ ap (λ st. c.loop-step.piece.items ++ step_line st ++ 10 ∷ []) c.step-item.is) c.in_ok-write_if_long.ensures.ok,
      c.in_ok-write_if_long.ensures.fine ∙ c.loop-step.invariant.1,
    )

pub returns-clause-ok : goal.returns-clause-ok
returns-clause-ok g c =
    on_ok_weaker c.write_all.result
    (λ all. gone_whole c.args.piece.items _ c.args.steps.now (g.W.Sink.taken c.args.writer.now) (g.W.Sink.taken c.loop-step.writer) (g.W.Sink.taken c.write_all.new.writer) c.loop-step.piece.items c.loop-step.invariant.0
    (take_all _ _ (omega arith)) (subst (Appends _ _) c.as_slice.ensures.value all)) c.write_all.ensures.ok

pub returns-clause-err : goal.returns-clause-err
returns-clause-err g c =
    let more = begun_more c.args.piece.items c.args.steps.now (g.W.Sink.taken c.args.writer.now) (g.W.Sink.taken c.loop-step.writer) c.loop-step.piece.items c.loop-step.step-index c.loop-step.invariant.0
    (g.W.Sink.taken c.write_all.new.writer) in
    on_err_weaker c.write_all.result (λ begins. more (subst (Begins _ _) c.as_slice.ensures.value begins)) c.write_all.ensures.err
