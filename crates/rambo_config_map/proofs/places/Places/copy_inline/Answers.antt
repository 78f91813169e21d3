use Rattle.std.proofs.Common.{◌≡◌, ◌≤◌, List, [], ◌++◌, length, Option, Some, sym, ap, ◌∙◌, arith, le_of_eq}
use Rattle.std.proofs.lemmas.List.{length-map}
use Rattle.rambo_names.proofs.Sizes.{back_fits, up_fits}
use Rattle.smallvec.specs.SmallVec.{SmallVec, HasRoomFor}
use Rattle.rambo_config_map.specs.Rows.{filled}
use Rattle.rambo_config_map.proofs.Rows.{full, kept, slots_of}
use Rattle.rambo_config_map.proofs.places.Places.copy_inline.Goals as goal

-- there is room for them in an empty vector
fit : {Q : Type 0} (empty : SmallVec (Option Q)) (slots slice : List (Option Q)) (xs : List Q) → empty.items ≡ [] → empty.capacity ≡ 8
    → slots ≡ full (filled slots) → filled slots ≡ xs → slice ≡ slots → length xs ≤ 8 → HasRoomFor empty (length slice)
fit empty slots slice xs none cap no_gap has same h =
    let n : length slice ≡ length xs = ap length (same ∙ slots_of slots xs no_gap has) ∙ length-map xs (λ x. Some x) in
    omega (arith, n, ap length none, cap, h)

pub allocator-requires : goal.allocator-requires
allocator-requires g c = back_fits _ _ _ (up_fits _ _ _ c.requires-raw.1.0)

pub new-slots-requires : goal.new-slots-requires
new-slots-requires g c = back_fits _ _ _ (up_fits _ _ _ c.requires-raw.1.0)

pub as_slice-requires : goal.as_slice-requires
as_slice-requires g c = back_fits _ _ _ (up_fits _ _ _ c.requires-raw.1.0)

pub append_slots-requires : goal.append_slots-requires
append_slots-requires g c = (
  back_fits _ _ _ (up_fits _ _ _ c.requires-raw.1.0),
  fit c.new-slots.result c.self.inside.slots.items c.as_slice.result.now c.args.self.now.configs c.new-slots.ensures.items c.new-slots.ensures.capacity
      c.self.invariant.1 (ap (λ r. r.configs) c.self.view_is) c.as_slice.ensures c.requires,
)

pub invariant_of-result : goal.invariant_of-result
invariant_of-result g c = (
  le_of_eq (sym (c.append_slots.ensures.capacity ∙ c.new-slots.ensures.capacity)),
  (kept c.append_slots.new.slots.items (filled c.self.inside.slots.items)
      (c.append_slots.ensures.items ∙ ap (λ xs. xs ++ c.as_slice.result.now) c.new-slots.ensures.items ∙ c.as_slice.ensures ∙ c.self.invariant.1)).1,
)

pub returns-clause-configs : goal.returns-clause-configs
returns-clause-configs g c =
    ap filled (c.append_slots.ensures.items ∙ ap (λ xs. xs ++ c.as_slice.result.now) c.new-slots.ensures.items ∙ c.as_slice.ensures)
    ∙ ap (λ r. r.configs) c.self.view_is

pub returns-clause-inline : goal.returns-clause-inline
returns-clause-inline g c = c.append_slots.ensures.capacity ∙ c.new-slots.ensures.capacity
