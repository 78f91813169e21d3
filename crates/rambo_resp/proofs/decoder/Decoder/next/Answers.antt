use Rattle.rambo_resp.proofs.Giving.{left_counts}
use Rattle.rambo_resp.proofs.decoder.Decoder.next.Goals as goal

pub returns-clause-counted : goal.returns-clause-counted
returns-clause-counted c = λ stream given h.
    left_counts c.args.self.now c.self.inside.progress c.take_oldest.new.self c.self.inside.fault stream given c.self.view_is c.take_oldest.ensures.kept h
