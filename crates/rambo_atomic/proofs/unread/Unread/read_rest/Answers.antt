use Rattle.std.proofs.Common.{sym, ap, ◌∙◌}
use Rattle.std.proofs.KnownBytes.{Consumes-trans}
use Rattle.rambo_atomic.proofs.unread.Unread.read_rest.Goals as goal

pub loop-self-preserved : goal.loop-self-preserved
loop-self-preserved g c = record {
  knows = λ e. c.in_ok-read_piece.ensures.knows (sym (ap (λ u. u.ended) c.forget_all-in-loop-self.ensures) ∙ e);
  bytes = let got = c.in_ok-read_piece.ensures.bytes in (_, Consumes-trans _ _ _ _ _ c.loop-self.invariant.bytes.1 got.1);
  fine = c.in_ok-read_piece.ensures.fine ∙ c.loop-self.invariant.fine;
}

pub returns-in_err-read_piece-clause-bytes : goal.returns-in_err-read_piece-clause-bytes
returns-in_err-read_piece-clause-bytes g c = let got = c.in_err-read_piece.ensures.bytes in (_, Consumes-trans _ _ _ _ _ c.loop-self.invariant.bytes.1 got.1)
