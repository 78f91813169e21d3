use Rattle.std.proofs.Common.{subst}
use Rattle.rambo_connection.specs.Incoming.{Feeds, behind}
use Rattle.rambo_connection.proofs.Ahead.{fed}
use Rattle.rambo_connection.proofs.incoming.Incoming.feed.Goals as goal

pub returns : goal.returns
returns c =
    let i = c.self.inside in
    let e = c.feed.new.self in
    subst (λ d. Feeds d c.args.piece.now (behind i.ahead e)) c.self.view_is (fed i.decoder e c.args.piece.now i.ahead c.feed.result c.feed.ensures.taken c.feed.ensures.memory c.feed.ensures.again)
