use Rattle.std.proofs.Common.{◌≡◌, ◌≤◌, ◌++◌, drop, vec_capacity}
use Rattle.rambo_outcome.specs.Notes.{Moves, events_text}
use Rattle.rambo_outcome.proofs.pieces.write_events.Given as goal

abbrev pub invariant-loop-event : goal.invariant-loop-event
invariant-loop-event g l = record {
  moves : Moves (g.W.Sink.taken l.fn.writer) (g.W.Sink.taken l.writer) (l.fn.piece.items ++ events_text l.events) (l.piece.items ++ events_text (drop l.event-index l.events));
  capacity : vec_capacity l.fn.piece ≤ vec_capacity l.piece;
  fine : g.W.Sink.failures l.writer ≡ g.W.Sink.failures l.fn.writer;
}
