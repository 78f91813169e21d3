use Rattle.rambo_outbox.proofs.HeldBack.{held_back}
use Rattle.rambo_outbox.proofs.laws.holds_nobody_back.Goals as goal

pub returns : goal.returns
returns g c = held_back g.Q.Quorums.system
