use Rattle.std.proofs.lemmas.Grind.{common_steps}
use Rattle.std.proofs.Common.{arith}
use Rattle.rambo_config_map.proofs.config_map.ConfigMap.places.Goals as goal

pub returns-clause-row : goal.returns-clause-row
returns-clause-row g c = grind (arith, common_steps)

pub returns-clause-inline : goal.returns-clause-inline
returns-clause-inline g c = assumption

pub returns-clause-not_empty : goal.returns-clause-not_empty
returns-clause-not_empty g c = grind (arith, common_steps)

pub returns-clause-at_most_eight : goal.returns-clause-at_most_eight
returns-clause-at_most_eight g c = grind (arith, common_steps)

pub returns-clause-in_range : goal.returns-clause-in_range
returns-clause-in_range g c = grind (arith, common_steps)
