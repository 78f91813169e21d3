use Rattle.std.proofs.lemmas.Grind.{common_steps}
use Rattle.std.proofs.Common.{arith}
use Rattle.rambo_config_map.proofs.config_map.ConfigMap.merge.Goals as goal

pub top-requires : goal.top-requires
top-requires g c = assumption

pub top-requires-then-other-self : goal.top-requires-then-other-self
top-requires-then-other-self g c = assumption

pub take_new-requires : goal.take_new-requires
take_new-requires g c = assumption

pub returns-then-top : goal.returns-then-top
returns-then-top g c = grind (arith, common_steps)

pub returns : goal.returns
returns g c = c.take_new.ensures
