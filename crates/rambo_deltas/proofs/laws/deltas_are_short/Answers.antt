use Rattle.rambo_deltas.proofs.Short.{deltas_are_short, later_too}
use Rattle.rambo_deltas.proofs.laws.deltas_are_short.Goals as goal

pub returns : goal.returns
returns g c = record { short = deltas_are_short g.Q.Quorums.system; later = later_too g.Q.Quorums.system }
