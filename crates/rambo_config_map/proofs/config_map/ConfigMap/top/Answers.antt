use Rattle.std.proofs.lemmas.Grind.{common_steps}
use Rattle.std.proofs.Common.{◌≡◌, ◌+◌, ◌-◌, ap, ◌∙◌, arith}
use Rattle.rambo_config_map.specs.Maps.{top_of}
use Rattle.rambo_config_map.specs.MapLaws.{top_below}
use Rattle.rambo_config_map.proofs.config_map.ConfigMap.top.Goals as goal

pub len-requires : goal.len-requires
len-requires g c = grind (arith, common_steps)

pub overflow_sub-result : goal.overflow_sub-result
overflow_sub-result g c = grind (arith, common_steps)

pub overflow_add-result : goal.overflow_add-result
overflow_add-result g c = grind (arith, common_steps)

pub returns : goal.returns
returns g c =
    let top : c.self.inside.floor + (c.len.result - 1) ≡ top_of (record { floor = c.self.inside.floor; configs = c.self.inside.places.configs }) =
    omega (arith, c.self.invariant.0, top_below (record { floor = c.self.inside.floor; configs = c.self.inside.places.configs })) in
    top ∙ ap top_of c.self.view_is
