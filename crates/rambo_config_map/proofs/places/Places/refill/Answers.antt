use Rattle.std.proofs.Common.{◌≡◌, ◌≤◌, List, [], ◌++◌, length, Option, Some, sym, ap, ◌∙◌, subst, arith}
use Rattle.std.proofs.lemmas.List.{length-map}
use Rattle.rambo_names.proofs.Sizes.{back_fits, up_fits}
use Rattle.smallvec.specs.SmallVec.{SmallVec, HasRoomFor}
use Rattle.rambo_config_map.specs.Rows.{filled}
use Rattle.rambo_config_map.proofs.Rows.{full, kept, slots_of}
use Rattle.rambo_config_map.proofs.places.Places.refill.Goals as goal

-- there is room for them in a vector that was emptied
fit : {Q : Type 0} (empty : SmallVec (Option Q)) (slots slice : List (Option Q)) (xs : List Q) → empty.items ≡ [] → 8 ≤ empty.capacity
    → slots ≡ full (filled slots) → filled slots ≡ xs → slice ≡ slots → length xs ≤ 8 → HasRoomFor empty (length slice)
fit empty slots slice xs none cap no_gap has same h =
    let n : length slice ≡ length xs = ap length (same ∙ slots_of slots xs no_gap has) ∙ length-map xs (λ x. Some x) in
    omega (arith, n, ap length none, cap, h)

pub clear-requires : goal.clear-requires
clear-requires g c = back_fits _ _ _ (up_fits _ _ _ c.requires-raw.1.0)

pub as_slice-requires : goal.as_slice-requires
as_slice-requires g c = back_fits _ _ _ (up_fits _ _ _ c.requires-raw.1.0)

pub append_slots-requires : goal.append_slots-requires
append_slots-requires g c = (
  back_fits _ _ _ (up_fits _ _ _ c.requires-raw.1.0),
  fit c.clear.new.self c.other.inside.slots.items c.as_slice.result.now c.args.other.now.configs c.clear.ensures.items
      (subst (λ n. 8 ≤ n) (sym c.clear.ensures.capacity) c.self.invariant.0)
      c.other.invariant.1 (ap (λ r. r.configs) c.other.view_is) c.as_slice.ensures c.requires,
)

-- the slots are the other row's
same : (g : _) (c : goal.After-append_slots g) → c.append_slots.new.slots.items ≡ c.other.inside.slots.items
same g c = c.append_slots.ensures.items ∙ ap (λ xs. xs ++ c.as_slice.result.now) c.clear.ensures.items ∙ c.as_slice.ensures

pub invariant_of-self : goal.invariant_of-self
invariant_of-self g c = (
  subst (λ n. 8 ≤ n) (sym (c.append_slots.ensures.capacity ∙ c.clear.ensures.capacity)) c.self.invariant.0,
  (kept c.append_slots.new.slots.items (filled c.other.inside.slots.items) (same g c ∙ c.other.invariant.1)).1,
)

pub returns-clause-configs : goal.returns-clause-configs
returns-clause-configs g c = ap filled (same g c) ∙ ap (λ r. r.configs) c.other.view_is

pub returns-clause-capacity : goal.returns-clause-capacity
returns-clause-capacity g c = c.append_slots.ensures.capacity ∙ c.clear.ensures.capacity ∙ ap (λ r. r.capacity) c.self.view_is
