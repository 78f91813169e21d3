use Rattle.std.proofs.Common.{◌≡◌, take}
use Rattle.rambo_trace.proofs.Pieces.{Going}
use Rattle.rambo_trace.proofs.writing.write_rest.Given as goal

abbrev pub invariant-loop-step : goal.invariant-loop-step
invariant-loop-step g l =
    Going l.fn.piece.items (take l.step-index l.steps) (g.W.Sink.taken l.fn.writer) (g.W.Sink.taken l.writer) l.piece.items
    × (g.W.Sink.failures l.writer ≡ g.W.Sink.failures l.fn.writer)
