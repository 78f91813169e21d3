use Rattle.std.proofs.Common.{◌≡◌, ℕ, ◌≤◌, length, drop, min, refl, sym, ap, ◌∙◌, subst, arith}
use Rattle.rambo_names.proofs.Sizes.{back_fits, up_fits}
use Rattle.rambo_config_map.proofs.Rows.{full, kept, slots_of, forgotten}
use Rattle.rambo_config_map.proofs.places.Places.forget.Goals as goal

below : (n m start : ℕ) → start ≡ min n m → start ≤ m
below n m start e = omega (arith, e)

row : (g : _) (c : goal.After-truncate g) → c.truncate.new.self.items ≡ full (drop c.args.count c.args.self.now.configs)
row g c =
    let has = slots_of c.self.inside.slots.items c.args.self.now.configs c.self.invariant.1 (ap (λ r. r.configs) c.self.view_is) in
    forgotten c.self.inside.slots.items c.as_mut_slice-slots.result.now c.rotate_left.new.self c.truncate.new.self.items c.args.self.now.configs c.args.count
    (length c.as_mut_slice-slots.result.now) c.min-start.result has (ap length c.as_mut_slice-slots.ensures.value) c.min-start.ensures c.as_mut_slice-slots.ensures.value
    c.rotate_left.ensures.len c.rotate_left.ensures.after c.truncate.ensures.items

pub invariant_of-self : goal.invariant_of-self
invariant_of-self g c = (subst (λ n. 8 ≤ n) (sym c.truncate.ensures.capacity) c.self.invariant.0, (kept _ _ (row g c)).1)

pub returns-clause-configs : goal.returns-clause-configs
returns-clause-configs g c = (kept _ _ (row g c)).0

pub returns-then-count-eq0-clause-configs : goal.returns-then-count-eq0-clause-configs
returns-then-count-eq0-clause-configs g c = sym (ap (λ n. drop n c.args.self.now.configs) c.if-count-eq0.true)

pub returns-then-count-eq0-clause-capacity : goal.returns-then-count-eq0-clause-capacity
returns-then-count-eq0-clause-capacity g c = refl

pub as_mut_slice-slots-requires : goal.as_mut_slice-slots-requires
as_mut_slice-slots-requires g c = back_fits _ _ _ (up_fits _ _ _ c.requires-raw.1)

pub rotate_left-requires : goal.rotate_left-requires
rotate_left-requires g c = below c.args.count _ c.min-start.result c.min-start.ensures

pub overflow_sub-len : goal.overflow_sub-len
overflow_sub-len g c = below c.args.count _ c.min-start.result c.min-start.ensures

pub truncate-requires : goal.truncate-requires
truncate-requires g c = back_fits _ _ _ (up_fits _ _ _ c.requires-raw.1)

pub returns-clause-capacity : goal.returns-clause-capacity
returns-clause-capacity g c = c.truncate.ensures.capacity ∙ ap (λ r. r.capacity) c.self.view_is
