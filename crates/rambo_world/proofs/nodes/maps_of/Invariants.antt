use Rattle.std.proofs.Common.{◌≡◌, take}
use Rattle.rambo_run.specs.Runs.{maps_of}
use Rattle.rambo_world.specs.Kept.{node_states}
use Rattle.rambo_world.proofs.nodes.maps_of.Given as goal

abbrev pub invariant-loop-node : goal.invariant-loop-node
invariant-loop-node g l = l.maps.items ≡ maps_of (node_states (take l.node-index l.nodes))
