use Rattle.rambo_config_map.specs.MapLaws.{merged_entries, merged_top, merged_no_longer, merged_active}
use Rattle.rambo_config_map.proofs.merging.merging_laws.Goals as goal

pub returns : goal.returns
returns g c = record { entries = merged_entries; top = merged_top; no_longer = merged_no_longer; not_empty = merged_active }
