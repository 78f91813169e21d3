use Rattle.std.proofs.Common.{◌-◌, ◌≤◌, length, ◌∙◌, arith, length-drop}
use Rattle.std.proofs.lemmas.List.{take_rest}
use Rattle.rambo_atomic.proofs.KnownBytes.{Appends-more, Begins-at}
use Rattle.rambo_atomic.proofs.whole.write_all.Goals as goal

pub loop-written-preserved : goal.loop-written-preserved
loop-written-preserved g c =
    let few : c.in-Ok.count ≤ length c.args.bytes.now - c.loop-written.written = simp (take_rest, length-drop) at c.in-Ok.ensures.count.1 in (
      Appends-more _ (g.W.Sink.taken c.loop-written.writer) _ c.loop-written.written c.in-Ok.count c.args.bytes.now c.loop-written.invariant.0 (simp take_rest at c.in-Ok.ensures.bytes),
      c.in-Ok.ensures.fine ∙ c.loop-written.invariant.1,
      omega arith,
    )

pub returns-in-Err-clause-err : goal.returns-in-Err-clause-err
returns-in-Err-clause-err g c = Begins-at _ (g.W.Sink.taken c.loop-written.writer) _ c.loop-written.written c.args.bytes.now c.loop-written.invariant.0 c.in-Err.ensures.kept
