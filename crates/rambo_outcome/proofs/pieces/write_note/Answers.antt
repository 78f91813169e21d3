use Rattle.std.proofs.Common.{◌++◌, sym, append_assoc}
use Rattle.std.proofs.lemmas.Result.{on_err_weaker, on_ok_weaker}
use Rattle.rambo_names.proofs.Errors.{on_err}
use Rattle.rambo_outcome.specs.Notes.{events_text}
use Rattle.rambo_outcome.proofs.ByPieces.{begins_more, moves_more, moves_then, stops_then}
use Rattle.rambo_outcome.proofs.pieces.write_note.Goals as goal

pub returns-in_err-write_events-clause-err : goal.returns-in_err-write_events-clause-err
returns-in_err-write_events-clause-err g c =
    let piece = c.args.piece.now.items in
    let front = events_text c.args.front.now in
    let line = c.args.line.now in
    on_err c.from_residual.result
    (begins_more (g.W.Sink.taken c.args.writer.now) (g.W.Sink.taken c.write_events.new.writer) (piece ++ front) (piece ++ (front ++ line)) line (sym (append_assoc piece front line)) c.in_err-write_events.ensures.err)

pub returns-clause-ok : goal.returns-clause-ok
returns-clause-ok g c =
    let piece = c.args.piece.now.items in
    let front = events_text c.args.front.now in
    let line = c.args.line.now in
    let old = g.W.Sink.taken c.args.writer.now in
    let now = g.W.Sink.taken c.write_events.new.writer in
    let left = c.write_events.new.piece.items in
    let m = moves_more old now (piece ++ front) (piece ++ (front ++ line)) left line (sym (append_assoc piece front line)) c.in_ok-write_events.ensures.ok in
    on_ok_weaker c.write_bytes.result (λ n. moves_then old now (g.W.Sink.taken c.write_bytes.new.writer) (piece ++ (front ++ line)) (left ++ line) c.write_bytes.new.piece.items m n) c.write_bytes.ensures.ok

pub returns-clause-err : goal.returns-clause-err
returns-clause-err g c =
    let piece = c.args.piece.now.items in
    let front = events_text c.args.front.now in
    let line = c.args.line.now in
    let old = g.W.Sink.taken c.args.writer.now in
    let now = g.W.Sink.taken c.write_events.new.writer in
    let left = c.write_events.new.piece.items in
    let m = moves_more old now (piece ++ front) (piece ++ (front ++ line)) left line (sym (append_assoc piece front line)) c.in_ok-write_events.ensures.ok in
    on_err_weaker c.write_bytes.result (λ b. stops_then old now (g.W.Sink.taken c.write_bytes.new.writer) (piece ++ (front ++ line)) (left ++ line) m b) c.write_bytes.ensures.err
