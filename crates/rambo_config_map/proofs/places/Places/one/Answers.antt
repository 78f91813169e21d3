use Rattle.std.proofs.Common.{◌≡◌, [], ◌∷◌, ◌++◌, length, Some, sym, ap, ◌∙◌, arith, le_of_eq}
use Rattle.rambo_names.proofs.Sizes.{back_fits, up_fits}
use Rattle.smallvec.specs.SmallVec.{SmallVec, HasRoomFor}
use Rattle.rambo_config_map.proofs.Rows.{kept}
use Rattle.rambo_config_map.proofs.places.Places.one.Goals as goal

first : {T : Type 0} (empty : SmallVec T) → empty.items ≡ [] → empty.capacity ≡ 8 → HasRoomFor empty 1
first empty none cap = omega (arith, ap length none, cap)

pub new-slots-requires : goal.new-slots-requires
new-slots-requires g c = back_fits _ _ _ (up_fits _ _ _ c.requires-raw.1)

pub push_reserved-requires : goal.push_reserved-requires
push_reserved-requires g c =
    (back_fits _ _ _ (up_fits _ _ _ c.requires-raw.1), first c.new-slots.result c.new-slots.ensures.items c.new-slots.ensures.capacity)

pub invariant_of-result : goal.invariant_of-result
invariant_of-result g c = (
  le_of_eq (sym (c.push_reserved.ensures.capacity ∙ c.new-slots.ensures.capacity)),
  (kept c.push_reserved.new.self.items (c.args.config ∷ [])
      (c.push_reserved.ensures.items ∙ ap (λ xs. xs ++ Some c.args.config ∷ []) c.new-slots.ensures.items)).1,
)

pub returns-clause-configs : goal.returns-clause-configs
returns-clause-configs g c =
    (kept c.push_reserved.new.self.items (c.args.config ∷ [])
    (c.push_reserved.ensures.items ∙ ap (λ xs. xs ++ Some c.args.config ∷ []) c.new-slots.ensures.items)).0

pub returns-clause-inline : goal.returns-clause-inline
returns-clause-inline g c = c.push_reserved.ensures.capacity ∙ c.new-slots.ensures.capacity
