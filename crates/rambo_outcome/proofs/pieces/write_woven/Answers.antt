use Rattle.std.proofs.Common.{◌+◌, ◌++◌, drop, ◌∙◌}
use Rattle.std.proofs.lemmas.Result.{on_err_weaker, on_ok_weaker}
use Rattle.rambo_names.proofs.Errors.{on_err}
use Rattle.rambo_outcome.specs.Notes.{events_text, woven, notes_in}
use Rattle.rambo_outcome.proofs.ByPieces.{front_room, back_room, note_on, note_bytes, notes_out, moves_as, moves_on, moves_then, stops_on, stops_then}
use Rattle.rambo_outcome.proofs.pieces.write_woven.Goals as goal

pub write_note-requires : goal.write_note-requires
write_note-requires g c = record { room = front_room _ c.min.result c.loop-note.rest.now _ c.loop-note.invariant.room c.split_at.ensures.front }

pub returns-in_err-write_note-clause-err : goal.returns-in_err-write_note-clause-err
returns-in_err-write_note-clause-err g c =
    let old = g.W.Sink.taken c.args.writer.now in
    let now = g.W.Sink.taken c.loop-note.writer in
    let notes = c.deref-note-items.result.now in
    let i = c.loop-note.note-index in
    let rest = c.loop-note.rest.now in
    let text = c.loop-note.text.now in
    let waits = c.loop-note.piece.items in
    let front = c.split_at.result.0.now in
    let behind = c.split_at.result.1.now in
    let line = c.split_at-in-loop-note.result.0.now in
    let others = c.split_at-in-loop-note.result.1.now in
    let whole = c.args.piece.now.items ++ woven c.args.events.now c.args.notes.now in
    let left = woven behind (notes_in (drop (i + 1) notes) others) in
    let split = note_on notes i (record { events = 0; len = 0 }) c.min.result rest front behind text line others waits c.loop-note-test.true c.min.ensures c.split_at.ensures.front c.split_at.ensures.back
    c.split_at-in-loop-note.ensures.front c.split_at-in-loop-note.ensures.back in
    on_err c.from_residual.result
    (stops_on old now (g.W.Sink.taken c.write_note.new.writer) whole (waits ++ (events_text front ++ line)) left
    (moves_as old now whole (waits ++ woven rest (notes_in (drop i notes) text)) ((waits ++ (events_text front ++ line)) ++ left) split c.loop-note.invariant.moves) c.in_err-write_note.ensures.err)

pub loop-note-preserved : goal.loop-note-preserved
loop-note-preserved g c =
    let old = g.W.Sink.taken c.args.writer.now in
    let now = g.W.Sink.taken c.loop-note.writer in
    let notes = c.deref-note-items.result.now in
    let i = c.loop-note.note-index in
    let rest = c.loop-note.rest.now in
    let text = c.loop-note.text.now in
    let waits = c.loop-note.piece.items in
    let front = c.split_at.result.0.now in
    let behind = c.split_at.result.1.now in
    let line = c.split_at-in-loop-note.result.0.now in
    let others = c.split_at-in-loop-note.result.1.now in
    let whole = c.args.piece.now.items ++ woven c.args.events.now c.args.notes.now in
    let left = woven behind (notes_in (drop (i + 1) notes) others) in
    let split = note_on notes i (record { events = 0; len = 0 }) c.min.result rest front behind text line others waits c.loop-note-test.true c.min.ensures c.split_at.ensures.front c.split_at.ensures.back
    c.split_at-in-loop-note.ensures.front c.split_at-in-loop-note.ensures.back in
    record {
      moves = moves_on old now (g.W.Sink.taken c.write_note.new.writer) whole (waits ++ (events_text front ++ line)) c.write_note.new.piece.items left
          (moves_as old now whole (waits ++ woven rest (notes_in (drop i notes) text)) ((waits ++ (events_text front ++ line)) ++ left) split c.loop-note.invariant.moves) c.in_ok-write_note.ensures.ok;
      bytes = note_bytes notes i (record { events = 0; len = 0 }) text others c.loop-note-test.true c.loop-note.invariant.bytes c.split_at-in-loop-note.ensures.back;
      room = back_room _ _ c.min.result rest behind c.loop-note.invariant.room c.in_ok-write_note.ensures.capacity c.split_at.ensures.back;
      fine = c.in_ok-write_note.ensures.fine ∙ c.loop-note.invariant.fine;
    }

pub returns-clause-ok : goal.returns-clause-ok
returns-clause-ok g c =
    let old = g.W.Sink.taken c.args.writer.now in
    let now = g.W.Sink.taken c.loop-note.writer in
    let notes = c.deref-note-items.result.now in
    let rest = c.loop-note.rest.now in
    let waits = c.loop-note.piece.items in
    let whole = c.args.piece.now.items ++ woven c.args.events.now c.args.notes.now in
    let left = notes_out notes c.loop-note.note-index rest c.loop-note.text.now waits c.loop-note-test.false in
    on_ok_weaker c.write_events.result
    (λ n. moves_then old now (g.W.Sink.taken c.write_events.new.writer) whole (waits ++ events_text rest) c.write_events.new.piece.items (moves_as old now whole _ (waits ++ events_text rest) left c.loop-note.invariant.moves) n)
    c.write_events.ensures.ok

pub returns-clause-err : goal.returns-clause-err
returns-clause-err g c =
    let old = g.W.Sink.taken c.args.writer.now in
    let now = g.W.Sink.taken c.loop-note.writer in
    let notes = c.deref-note-items.result.now in
    let rest = c.loop-note.rest.now in
    let waits = c.loop-note.piece.items in
    let whole = c.args.piece.now.items ++ woven c.args.events.now c.args.notes.now in
    let left = notes_out notes c.loop-note.note-index rest c.loop-note.text.now waits c.loop-note-test.false in
    on_err_weaker c.write_events.result
    (λ b. stops_then old now (g.W.Sink.taken c.write_events.new.writer) whole (waits ++ events_text rest) (moves_as old now whole _ (waits ++ events_text rest) left c.loop-note.invariant.moves) b)
    c.write_events.ensures.err
