use Rattle.std.proofs.Common.{◌≡◌, OnErr, ◌++◌, ◌∷◌, [], ap, ◌∙◌, subst}
use Rattle.rambo_text.specs.declared.version.Version.TheVariants.{Two}
use Rattle.rambo_text.specs.Versions.{head_text}
use Rattle.rambo_atomic.specs.Streams.{Begins}
use Rattle.rambo_lines.specs.Scripts.{founders_line, steps_text}
use Rattle.rambo_trace.proofs.Pieces.{head_first, when_ok}
use Rattle.rambo_trace.proofs.writing.write_trace.Goals as goal

pub returns-clause-err : goal.returns-clause-err
returns-clause-err g c =
    let head = head_text Two ++ (founders_line c.args.founders ++ 10 ∷ []) in
    let piece : c.founders_text.new.out.items ≡ head = when_ok c.founders_text.result _ _ c.in_ok-in_memory.ensures.ok c.founders_text.ensures.ok ∙ ap (λ l. l ++ head) c.new-piece.ensures.items in
    let text = ap (λ l. l ++ steps_text c.args.steps.now) piece ∙ head_first c.args.founders c.args.steps.now in
    subst (λ t. OnErr c.write_rest.result (Begins (g.W.Sink.taken c.args.writer.now) (g.W.Sink.taken c.write_rest.new.writer) t)) text c.write_rest.ensures.err
