use Rattle.std.proofs.Common.{◌++◌, sym, subst, append_assoc}
use Rattle.std.proofs.lemmas.Result.{on_err_weaker}
use Rattle.rambo_names.proofs.Errors.{on_err}
use Rattle.rambo_atomic.specs.Streams.{Begins}
use Rattle.rambo_outcome.specs.Notes.{woven}
use Rattle.rambo_outcome.proofs.ByPieces.{begins_more, moves_more, moves_then, stops_then}
use Rattle.rambo_outcome.proofs.told.write_all_told.Goals as goal

pub returns-in_err-write_woven-clause-err : goal.returns-in_err-write_woven-clause-err
returns-in_err-write_woven-clause-err g c =
    let piece = c.args.piece.now.items in
    let text = woven c.args.events.now c.args.notes.now in
    let tail = c.args.tail.now in
    on_err c.from_residual.result
    (begins_more (g.W.Sink.taken c.args.writer.now) (g.W.Sink.taken c.write_woven.new.writer) (piece ++ text) (piece ++ (text ++ tail)) tail (sym (append_assoc piece text tail)) c.in_err-write_woven.ensures.err)

pub returns-in_err-write_bytes-clause-err : goal.returns-in_err-write_bytes-clause-err
returns-in_err-write_bytes-clause-err g c =
    let piece = c.args.piece.now.items in
    let text = woven c.args.events.now c.args.notes.now in
    let tail = c.args.tail.now in
    let old = g.W.Sink.taken c.args.writer.now in
    let now = g.W.Sink.taken c.write_woven.new.writer in
    let left = c.write_woven.new.piece.items in
    let m = moves_more old now (piece ++ text) (piece ++ (text ++ tail)) left tail (sym (append_assoc piece text tail)) c.in_ok-write_woven.ensures.ok in
    on_err c.from_residual-in_err-write_bytes.result (stops_then old now (g.W.Sink.taken c.write_bytes.new.writer) (piece ++ (text ++ tail)) (left ++ tail) m c.in_err-write_bytes.ensures.err)

pub returns-clause-err : goal.returns-clause-err
returns-clause-err g c =
    let piece = c.args.piece.now.items in
    let text = woven c.args.events.now c.args.notes.now in
    let tail = c.args.tail.now in
    let old = g.W.Sink.taken c.args.writer.now in
    let now = g.W.Sink.taken c.write_woven.new.writer in
    let next = g.W.Sink.taken c.write_bytes.new.writer in
    let left = c.write_woven.new.piece.items in
    let waits = c.write_bytes.new.piece.items in
    let m = moves_more old now (piece ++ text) (piece ++ (text ++ tail)) left tail (sym (append_assoc piece text tail)) c.in_ok-write_woven.ensures.ok in
    let n = moves_then old now next (piece ++ (text ++ tail)) (left ++ tail) waits m c.in_ok-write_bytes.ensures.ok in
    on_err_weaker c.write_all.result (λ b. stops_then old next (g.W.Sink.taken c.write_all.new.writer) (piece ++ (text ++ tail)) waits n (subst (Begins _ _) c.as_slice.ensures.value b)) c.write_all.ensures.err
