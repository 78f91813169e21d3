use Rattle.rambo_deltas.proofs.Stamped.{full_nodes_are_nodes, stamps_are_numbers}
use Rattle.rambo_deltas.proofs.laws.stamps_are_numbers.Goals as goal

pub returns : goal.returns
returns g c = record { nodes = full_nodes_are_nodes g.Q.Quorums.system; stamps = stamps_are_numbers g.Q.Quorums.system }
