use Rattle.std.proofs.Common.{ap, ◌∙◌}
use Rattle.rambo_config_map.proofs.Rows.{list_all-row}
use Rattle.rambo_config_map.proofs.places.Places.have_quorums.Goals as goal

pub returns : goal.returns
returns g c =
    c.all_have_quorums.ensures
    ∙ list_all-row g.Q.Quorums.system c.args.who c.self.inside.slots.items c.as_slice.result.now c.args.self.now.configs
    c.as_slice.ensures (ap (λ r. r.configs) c.self.view_is)
