use Rattle.std.proofs.Common.{◌≡◌, ◌++◌, length, drop, vec_capacity}
use Rattle.rambo_outcome.specs.Notes.{Moves, HasRoom, woven, notes_in, bytes_in}
use Rattle.rambo_outcome.proofs.pieces.write_woven.Given as goal

abbrev pub invariant-loop-note : goal.invariant-loop-note
invariant-loop-note g l = record {
  moves : Moves (g.W.Sink.taken l.fn.writer) (g.W.Sink.taken l.writer) (l.fn.piece.items ++ woven l.events l.notes) (l.piece.items ++ woven l.rest (notes_in (drop l.note-index l.note-items) l.text));
  bytes : bytes_in (drop l.note-index l.note-items) ≡ length l.text;
  room : HasRoom (vec_capacity l.piece) l.rest;
  fine : g.W.Sink.failures l.writer ≡ g.W.Sink.failures l.fn.writer;
}
