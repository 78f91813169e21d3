use Rattle.std.proofs.lemmas.Grind.{common_steps}
use Rattle.std.proofs.Common.{arith}
use Rattle.rambo_config_map.proofs.config_map.ConfigMap.copy.Goals as goal

pub copy_inline-requires : goal.copy_inline-requires
copy_inline-requires g c = grind (arith, common_steps)

pub invariant_of-result : goal.invariant_of-result
invariant_of-result g c = grind (arith, common_steps)

pub returns : goal.returns
returns g c = grind (arith, common_steps)
