use Rattle.rambo_run.proofs.StoreOrder.{has_one_order}
use Rattle.rambo_run.proofs.laws.one_order_explains.Goals as goal

pub returns : goal.returns
returns g c = record { order = has_one_order g.Q.Quorums.system g.met.Q.Quorums.sound }
