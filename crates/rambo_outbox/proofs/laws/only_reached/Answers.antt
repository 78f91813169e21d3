use Rattle.rambo_outbox.proofs.Reached.{only_reached}
use Rattle.rambo_outbox.proofs.laws.only_reached.Goals as goal

pub returns : goal.returns
returns g c = only_reached g.Q.Quorums.system
