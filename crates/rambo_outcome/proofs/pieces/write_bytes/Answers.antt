use Rattle.std.proofs.Common.{◌++◌, refl}
use Rattle.std.proofs.lemmas.Result.{on_err_weaker, on_ok_weaker}
use Rattle.rambo_names.proofs.Errors.{on_err}
use Rattle.rambo_outcome.proofs.ByPieces.{begins_more, bytes_out, bytes_begun}
use Rattle.rambo_outcome.proofs.pieces.write_bytes.Goals as goal

pub returns-in_err-write_piece-clause-err : goal.returns-in_err-write_piece-clause-err
returns-in_err-write_piece-clause-err g c =
    let piece = c.args.piece.now.items in
    on_err c.from_residual.result (begins_more (g.W.Sink.taken c.args.writer.now) (g.W.Sink.taken c.write_piece.new.writer) piece (piece ++ c.args.bytes.now) c.args.bytes.now refl c.in_err-write_piece.ensures.err)

pub returns-then-capacity-len-clause-ok : goal.returns-then-capacity-len-clause-ok
returns-then-capacity-len-clause-ok g c =
    on_ok_weaker c.write_all.result
    (λ a. bytes_out (g.W.Sink.taken c.args.writer.now) (g.W.Sink.taken c.write_piece.new.writer) (g.W.Sink.taken c.write_all.new.writer) c.args.piece.now.items c.write_piece.new.piece.items c.args.bytes.now
    c.in_ok-write_piece.ensures.ok c.in_ok-write_piece.ensures.empty a) c.write_all.ensures.ok

pub returns-then-capacity-len-clause-err : goal.returns-then-capacity-len-clause-err
returns-then-capacity-len-clause-err g c =
    on_err_weaker c.write_all.result
    (λ b. bytes_begun (g.W.Sink.taken c.args.writer.now) (g.W.Sink.taken c.write_piece.new.writer) (g.W.Sink.taken c.write_all.new.writer) c.args.piece.now.items c.write_piece.new.piece.items c.args.bytes.now
    c.in_ok-write_piece.ensures.ok c.in_ok-write_piece.ensures.empty b) c.write_all.ensures.err
