use Rattle.std.proofs.Common.{◌≡◌, ℕ, ◌+◌, ◌-◌, ◌≤◌, List, [], ◌∷◌, ◌++◌, length, drop, min, Option, Some, refl, sym, ap, ◌∙◌, subst, arith, le_refl, le_trans, length-drop, append-nil}
use Rattle.std.proofs.lemmas.Bool.{true≢false, eqb-true}
use Rattle.std.proofs.lemmas.List.{length-map}
use Rattle.rambo_names.proofs.Errors.{err_kept, err_ok, on_err}
use Rattle.rambo_names.proofs.Sizes.{back_fits, up_fits}
use Rattle.smallvec.specs.SmallVec.{SmallVec, HasRoomFor}
use Rattle.rambo_config_map.specs.Rows.{filled, RowState}
use Rattle.rambo_config_map.proofs.Rows.{full, kept, slots_of, tail_of, extended}
use Rattle.rambo_config_map.proofs.places.Places.extend.Goals as goal

-- there is room among the slots where there is room in the row
more_room : {Q : Type 0} (slots : SmallVec (Option Q)) (row : RowState Q) (part : List (Option Q)) (ys : List Q) (from : ℕ) → slots.items ≡ full (filled slots.items)
    → record { configs = filled slots.items; capacity = slots.capacity } ≡ row → part ≡ full (drop from ys)
    → length row.configs + (length ys - from) ≤ row.capacity → HasRoomFor slots (length part)
more_room slots row part ys from no_gap is e h =
    let kept : length row.configs ≡ length slots.items =
    sym (length-map row.configs (λ x. Some x)) ∙ sym (ap length (slots_of slots.items row.configs no_gap (ap (λ r. r.configs) is))) in
    let more : length part ≡ length ys - from = ap length e ∙ length-map (drop from ys) (λ x. Some x) ∙ length-drop from ys in
    let room : row.capacity ≡ slots.capacity = sym (ap (λ r. r.capacity) is) in
    subst (λ n. n + length part ≤ slots.capacity) kept
    (subst (λ n. length row.configs + n ≤ slots.capacity) (sym more) (subst (λ n. length row.configs + (length ys - from) ≤ n) room h))

none_more : {Q : Type 0} (part : List (Option Q)) (xs ys : List Q) → part ≡ full ys → length part ≡ 0 → xs ≡ xs ++ ys
none_more part xs [] e h = sym (append-nil xs)
none_more part xs (y ∷ ys) e h = absurd (omega (arith, h, ap length e))

below : (n m : ℕ) (start : ℕ) → start ≡ min n m → start ≤ m
below n m start e = omega (arith, e)

row : (g : _) (c : goal.After-append_slots g)
    → c.append_slots.new.slots.items ≡ full (c.args.self.now.configs ++ drop c.args.from c.args.other.now.configs)
row g c =
    let has = slots_of c.self.inside.slots.items c.args.self.now.configs c.self.invariant.1 (ap (λ r. r.configs) c.self.view_is) in
    let other = slots_of c.other.inside.slots.items c.args.other.now.configs c.other.invariant.1 (ap (λ r. r.configs) c.other.view_is) in
    extended c.reserve.new.self.items c.append_slots.new.slots.items _ c.args.self.now.configs (drop c.args.from c.args.other.now.configs) (c.reserve.ensures.items ∙ has)
    (tail_of c.other.inside.slots.items c.as_slice-slots.result.now c.args.other.now.configs c.args.from c.min-start.result other c.as_slice-slots.ensures c.min-start.ensures)
    c.append_slots.ensures.items

pub invariant_of-self-2 : goal.invariant_of-self-2
invariant_of-self-2 g c =
    (subst (λ n. 8 ≤ n) (sym c.append_slots.ensures.capacity) (le_trans c.self.invariant.0 c.reserve.ensures.capacity), (kept _ _ (row g c)).1)

pub returns-clause-ok : goal.returns-clause-ok
returns-clause-ok g c = (kept _ _ (row g c)).0

pub as_slice-slots-requires : goal.as_slice-slots-requires
as_slice-slots-requires g c = back_fits _ _ _ (up_fits _ _ _ c.requires-raw.1)

pub offset_bounds-slots-start : goal.offset_bounds-slots-start
offset_bounds-slots-start g c = below c.args.from _ c.min-start.result c.min-start.ensures

pub slice_bounds-more-count : goal.slice_bounds-more-count
slice_bounds-more-count g c = below c.args.from _ c.min-start.result c.min-start.ensures

pub slice_bounds-more-start : goal.slice_bounds-more-start
slice_bounds-more-start g c = below c.args.from _ c.min-start.result c.min-start.ensures

pub slice_bounds-more-end : goal.slice_bounds-more-end
slice_bounds-more-end g c = le_refl (length c.as_slice-slots.result.now)

pub returns-then-is_empty-clause-ok : goal.returns-then-is_empty-clause-ok
returns-then-is_empty-clause-ok g c =
    none_more _ c.args.self.now.configs (drop c.args.from c.args.other.now.configs)
    (tail_of c.other.inside.slots.items c.as_slice-slots.result.now c.args.other.now.configs c.args.from c.min-start.result (slots_of c.other.inside.slots.items c.args.other.now.configs c.other.invariant.1 (ap (λ r. r.configs) c.other.view_is))
    c.as_slice-slots.ensures c.min-start.ensures)
    (eqb-true _ 0 (sym c.if-is_empty.ensures))

pub returns-then-is_empty-clause-err : goal.returns-then-is_empty-clause-err
returns-then-is_empty-clause-err g c = tt

pub returns-then-is_empty-clause-refused : goal.returns-then-is_empty-clause-refused
returns-then-is_empty-clause-refused g c = tt

pub returns-then-is_empty-clause-succeeds : goal.returns-then-is_empty-clause-succeeds
returns-then-is_empty-clause-succeeds g c = λ _. refl

pub returns-then-is_empty-clause-had_room : goal.returns-then-is_empty-clause-had_room
returns-then-is_empty-clause-had_room g c = λ _. refl

pub returns-then-is_empty-clause-capacity : goal.returns-then-is_empty-clause-capacity
returns-then-is_empty-clause-capacity g c = le_refl c.args.self.now.capacity

pub reserve-requires : goal.reserve-requires
reserve-requires g c = back_fits _ _ _ (up_fits _ _ _ c.requires-raw.1)

pub invariant_of-self : goal.invariant_of-self
invariant_of-self g c =
    (le_trans c.self.invariant.0 c.reserve.ensures.capacity, (kept c.reserve.new.self.items (filled c.self.inside.slots.items) (c.reserve.ensures.items ∙ c.self.invariant.1)).1)

pub returns-in_err-reserve-clause-ok : goal.returns-in_err-reserve-clause-ok
returns-in_err-reserve-clause-ok g c = err_ok c.from_residual.result _ _ c.from_residual.ensures.1

pub returns-in_err-reserve-clause-err : goal.returns-in_err-reserve-clause-err
returns-in_err-reserve-clause-err g c = on_err c.from_residual.result
    (ap (λ v. record { configs = filled v.items; capacity = v.capacity }) c.in_err-reserve.ensures.err ∙ c.self.view_is)

pub returns-in_err-reserve-clause-refused : goal.returns-in_err-reserve-clause-refused
returns-in_err-reserve-clause-refused g c = err_kept c.from_residual.result _ _ c.from_residual.ensures.1 refl

pub returns-in_err-reserve-clause-succeeds : goal.returns-in_err-reserve-clause-succeeds
returns-in_err-reserve-clause-succeeds g c = λ h. absurd (true≢false (sym (c.in_err-reserve.ensures.succeeds
    (more_room c.self.inside.slots c.args.self.now _ c.args.other.now.configs c.args.from c.self.invariant.1 c.self.view_is
    (tail_of c.other.inside.slots.items c.as_slice-slots.result.now c.args.other.now.configs c.args.from c.min-start.result (slots_of c.other.inside.slots.items c.args.other.now.configs c.other.invariant.1 (ap (λ r. r.configs) c.other.view_is))
    c.as_slice-slots.ensures c.min-start.ensures) h))))

pub returns-in_err-reserve-clause-had_room : goal.returns-in_err-reserve-clause-had_room
returns-in_err-reserve-clause-had_room g c = λ h. ap (λ v. v.capacity) c.in_err-reserve.ensures.err ∙ ap (λ r. r.capacity) c.self.view_is

pub returns-in_err-reserve-clause-capacity : goal.returns-in_err-reserve-clause-capacity
returns-in_err-reserve-clause-capacity g c = subst (λ r. r.capacity ≤ c.reserve.new.self.capacity) c.self.view_is c.reserve.ensures.capacity

pub append_slots-requires : goal.append_slots-requires
append_slots-requires g c = (back_fits _ _ _ (up_fits _ _ _ c.requires-raw.1), c.in_ok-reserve.ensures.ok)

pub returns-clause-err : goal.returns-clause-err
returns-clause-err g c = tt

pub returns-clause-refused : goal.returns-clause-refused
returns-clause-refused g c = tt

pub returns-clause-succeeds : goal.returns-clause-succeeds
returns-clause-succeeds g c = λ _. refl

pub returns-clause-had_room : goal.returns-clause-had_room
returns-clause-had_room g c = λ h.
    c.append_slots.ensures.capacity ∙ ap (λ v. v.capacity) (c.in_ok-reserve.ensures.had_room
    (more_room c.self.inside.slots c.args.self.now _ c.args.other.now.configs c.args.from c.self.invariant.1 c.self.view_is
    (tail_of c.other.inside.slots.items c.as_slice-slots.result.now c.args.other.now.configs c.args.from c.min-start.result (slots_of c.other.inside.slots.items c.args.other.now.configs c.other.invariant.1 (ap (λ r. r.configs) c.other.view_is))
    c.as_slice-slots.ensures c.min-start.ensures) h)) ∙ ap (λ r. r.capacity) c.self.view_is

pub returns-clause-capacity : goal.returns-clause-capacity
returns-clause-capacity g c = subst (λ n. c.args.self.now.capacity ≤ n) (sym c.append_slots.ensures.capacity)
    (subst (λ r. r.capacity ≤ c.reserve.new.self.capacity) c.self.view_is c.reserve.ensures.capacity)
