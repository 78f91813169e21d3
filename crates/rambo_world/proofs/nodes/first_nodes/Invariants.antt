use Rattle.std.proofs.Common.{◌≡◌}
use Rattle.rambo_names.specs.Names.{rising}
use Rattle.rambo_run.specs.Worlds.{first_nodes}
use Rattle.rambo_world.specs.Kept.{node_states}
use Rattle.rambo_world.proofs.nodes.first_nodes.Given as goal

abbrev pub invariant-loop-place : goal.invariant-loop-place
invariant-loop-place g l = node_states l.list.items ≡ first_nodes g.Q.Quorums.system l.founders (rising l.place 1)
