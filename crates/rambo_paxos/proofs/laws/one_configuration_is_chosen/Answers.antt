use Rattle.rambo_paxos.proofs.OnePlace.{one_configuration}
use Rattle.rambo_paxos.proofs.laws.one_configuration_is_chosen.Goals as goal

pub returns : goal.returns
returns g c = record { one = one_configuration g.Q.Quorums.system g.met.Q.Quorums.sound }
