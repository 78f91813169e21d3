use Rattle.std.proofs.Common.{sym, append-nil}
use Rattle.rambo_client.proofs.serving.feed_begun.Goals as goal

pub returns-in_ok-is_of_stream-in-Err-clause-ok : goal.returns-in_ok-is_of_stream-in-Err-clause-ok
returns-in_ok-is_of_stream-in-Err-clause-ok c = λ stream given h. record {
  front = c.args.piece.now;
  split = sym (append-nil c.args.piece.now);
  taken = (c.in-Err.ensures.fault stream given h c.in_ok-is_of_stream-in-Err.ensures.ok).0;
}
