use Rattle.std.proofs.lemmas.Grind.{common_steps}
use Rattle.std.proofs.Common.{◌≡◌, arith, ap, refl, [], ◌∷◌, ◌++◌, Some}
use Rattle.rambo_config_map.proofs.Rows.{full, kept, slots_of, extended}
use Rattle.rambo_config_map.proofs.places.Places.push.Goals as goal

row : (g : _) (c : goal.After-push_reserved g) → c.push_reserved.new.self.items ≡ full (c.args.self.now.configs ++ c.args.config ∷ [])
row g c =
    let has = slots_of c.self.inside.slots.items c.args.self.now.configs c.self.invariant.1 (ap (λ r. r.configs) c.self.view_is) in
    extended c.self.inside.slots.items c.push_reserved.new.self.items (Some c.args.config ∷ []) c.args.self.now.configs (c.args.config ∷ []) has refl c.push_reserved.ensures.items

pub invariant_of-self : goal.invariant_of-self
invariant_of-self g c = (omega (arith, c.self.invariant.0, c.push_reserved.ensures.capacity), (kept _ _ (row g c)).1)

pub returns-clause-configs : goal.returns-clause-configs
returns-clause-configs g c = (kept _ _ (row g c)).0

pub push_reserved-requires : goal.push_reserved-requires
push_reserved-requires g c = grind (arith, common_steps)

pub returns-clause-capacity : goal.returns-clause-capacity
returns-clause-capacity g c = grind (arith, common_steps)
