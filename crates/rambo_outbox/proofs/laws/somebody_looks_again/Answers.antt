use Rattle.rambo_outbox.proofs.LooksAgain.{looks_again}
use Rattle.rambo_outbox.proofs.laws.somebody_looks_again.Goals as goal

pub returns : goal.returns
returns g c = looks_again g.Q.Quorums.system
