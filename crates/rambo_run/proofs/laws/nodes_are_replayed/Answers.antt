use Rattle.rambo_run.proofs.Replays.{replays}
use Rattle.rambo_run.proofs.laws.nodes_are_replayed.Goals as goal

pub returns : goal.returns
returns g c = record { replayed = replays g.Q.Quorums.system }
