use Rattle.std.proofs.Common.{◌∙◌, ap}
use Rattle.rambo_config_map.proofs.Rows.{slots_of, rows-Decides}
use Rattle.rambo_config_map.proofs.places.Places.same.Goals as goal

pub returns : goal.returns
returns g c =
    let own = slots_of c.self.inside.slots.items c.args.self.now.configs c.self.invariant.1 (ap (λ r. r.configs) c.self.view_is) in
    let other = slots_of c.other.inside.slots.items c.args.other.now.configs c.other.invariant.1 (ap (λ r. r.configs) c.other.view_is) in
    rows-Decides g.Q.PartialEq.eq g.met.Q.Quorums.identical g.met.Q.Eq.laws.refl c.as_slice.result.now c.as_slice-2.result.now
    c.args.self.now.configs c.args.other.now.configs c.eq.result (c.as_slice.ensures ∙ own) (c.as_slice-2.ensures ∙ other) c.eq.ensures
