use Rattle.std.proofs.Common.{◌≡◌, take}
use Rattle.rambo_world.proofs.nodes.configs_of.Given as goal

abbrev pub invariant-loop-index : goal.invariant-loop-index
invariant-loop-index g l = l.configs.items ≡ take l.index l.places.configs
