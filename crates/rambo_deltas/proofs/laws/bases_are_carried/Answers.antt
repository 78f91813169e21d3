use Rattle.rambo_deltas.proofs.Carried.{bases_are_carried}
use Rattle.rambo_deltas.proofs.laws.bases_are_carried.Goals as goal

pub returns : goal.returns
returns g c = record { carried = bases_are_carried g.Q.Quorums.system }
