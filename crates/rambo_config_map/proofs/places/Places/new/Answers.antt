use Rattle.std.proofs.Common.{[], sym, ap, le_of_eq}
use Rattle.rambo_names.proofs.Sizes.{back_fits, up_fits}
use Rattle.rambo_config_map.specs.Rows.{filled}
use Rattle.rambo_config_map.proofs.Rows.{kept}
use Rattle.rambo_config_map.proofs.places.Places.new.Goals as goal

pub new-requires : goal.new-requires
new-requires g c = back_fits _ _ _ (up_fits _ _ _ c.requires-raw.1)

pub invariant_of-result : goal.invariant_of-result
invariant_of-result g c = (le_of_eq (sym c.new.ensures.capacity), (kept c.new.result.items [] c.new.ensures.items).1)

pub returns-clause-configs : goal.returns-clause-configs
returns-clause-configs g c = ap filled c.new.ensures.items

pub returns-clause-inline : goal.returns-clause-inline
returns-clause-inline g c = c.new.ensures.capacity
