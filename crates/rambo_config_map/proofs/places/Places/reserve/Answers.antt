use Rattle.std.proofs.Common.{◌≡◌, ℕ, ◌+◌, ◌≤◌, length, Option, Some, refl, sym, ap, ◌∙◌, subst, le_trans}
use Rattle.std.proofs.lemmas.Bool.{true≢false}
use Rattle.std.proofs.lemmas.List.{length-map}
use Rattle.rambo_names.proofs.Errors.{err_kept, err_ok, on_err}
use Rattle.rambo_names.proofs.Sizes.{back_fits, up_fits}
use Rattle.smallvec.specs.SmallVec.{SmallVec, HasRoomFor}
use Rattle.rambo_config_map.specs.Rows.{filled, RowState}
use Rattle.rambo_config_map.proofs.Rows.{full, kept, slots_of}
use Rattle.rambo_config_map.proofs.places.Places.reserve.Goals as goal

-- a row's configurations fill its slots
filled_slots : {Q : Type 0} (slots : SmallVec (Option Q)) (row : RowState Q) → slots.items ≡ full (filled slots.items)
    → record { configs = filled slots.items; capacity = slots.capacity } ≡ row → length row.configs ≡ length slots.items
filled_slots slots row no_gap is =
    sym (length-map row.configs (λ x. Some x)) ∙ sym (ap length (slots_of slots.items row.configs no_gap (ap (λ r. r.configs) is)))

has_room : {Q : Type 0} (slots : SmallVec (Option Q)) (row : RowState Q) (more : ℕ) → slots.items ≡ full (filled slots.items)
    → record { configs = filled slots.items; capacity = slots.capacity } ≡ row → length row.configs + more ≤ row.capacity → HasRoomFor slots more
has_room slots row more no_gap is h =
    subst (λ n. n + more ≤ slots.capacity) (filled_slots slots row no_gap is) (subst (λ n. length row.configs + more ≤ n) (sym (ap (λ r. r.capacity) is)) h)

pub reserve-requires : goal.reserve-requires
reserve-requires g c = back_fits _ _ _ (up_fits _ _ _ c.requires-raw.1)

pub invariant_of-self : goal.invariant_of-self
invariant_of-self g c =
    (le_trans c.self.invariant.0 c.reserve.ensures.capacity, (kept c.reserve.new.self.items (filled c.self.inside.slots.items) (c.reserve.ensures.items ∙ c.self.invariant.1)).1)

pub returns-in_err-reserve-clause-configs : goal.returns-in_err-reserve-clause-configs
returns-in_err-reserve-clause-configs g c = ap filled c.reserve.ensures.items ∙ ap (λ r. r.configs) c.self.view_is

pub returns-in_err-reserve-clause-ok : goal.returns-in_err-reserve-clause-ok
returns-in_err-reserve-clause-ok g c = err_ok c.from_residual.result _ _ c.from_residual.ensures.1

pub returns-in_err-reserve-clause-err : goal.returns-in_err-reserve-clause-err
returns-in_err-reserve-clause-err g c = on_err c.from_residual.result
    (ap (λ v. record { configs = filled v.items; capacity = v.capacity }) c.in_err-reserve.ensures.err ∙ c.self.view_is)

pub returns-in_err-reserve-clause-refused : goal.returns-in_err-reserve-clause-refused
returns-in_err-reserve-clause-refused g c = err_kept c.from_residual.result _ _ c.from_residual.ensures.1 refl

pub returns-in_err-reserve-clause-succeeds : goal.returns-in_err-reserve-clause-succeeds
returns-in_err-reserve-clause-succeeds g c = λ h.
    absurd (true≢false (sym (c.in_err-reserve.ensures.succeeds (has_room c.self.inside.slots c.args.self.now c.args.additional c.self.invariant.1 c.self.view_is h))))

pub returns-in_err-reserve-clause-had_room : goal.returns-in_err-reserve-clause-had_room
returns-in_err-reserve-clause-had_room g c = λ h.
    ap (λ v. record { configs = filled v.items; capacity = v.capacity }) c.in_err-reserve.ensures.err ∙ c.self.view_is

pub returns-in_err-reserve-clause-capacity : goal.returns-in_err-reserve-clause-capacity
returns-in_err-reserve-clause-capacity g c = subst (λ r. r.capacity ≤ c.reserve.new.self.capacity) c.self.view_is c.reserve.ensures.capacity

pub invariant_of-self-2 : goal.invariant_of-self-2
invariant_of-self-2 g c =
    (le_trans c.self.invariant.0 c.reserve.ensures.capacity, (kept c.reserve.new.self.items (filled c.self.inside.slots.items) (c.reserve.ensures.items ∙ c.self.invariant.1)).1)

pub returns-clause-configs : goal.returns-clause-configs
returns-clause-configs g c = ap filled c.reserve.ensures.items ∙ ap (λ r. r.configs) c.self.view_is

pub returns-clause-ok : goal.returns-clause-ok
returns-clause-ok g c =
    subst (λ n. n + c.args.additional ≤ c.reserve.new.self.capacity)
    (ap length c.reserve.ensures.items ∙ sym (filled_slots c.self.inside.slots c.args.self.now c.self.invariant.1 c.self.view_is)) c.in_ok-reserve.ensures.ok

pub returns-clause-err : goal.returns-clause-err
returns-clause-err g c = tt

pub returns-clause-refused : goal.returns-clause-refused
returns-clause-refused g c = tt

pub returns-clause-succeeds : goal.returns-clause-succeeds
returns-clause-succeeds g c = λ _. refl

pub returns-clause-had_room : goal.returns-clause-had_room
returns-clause-had_room g c = λ h.
    ap (λ v. record { configs = filled v.items; capacity = v.capacity })
    (c.in_ok-reserve.ensures.had_room (has_room c.self.inside.slots c.args.self.now c.args.additional c.self.invariant.1 c.self.view_is h)) ∙ c.self.view_is

pub returns-clause-capacity : goal.returns-clause-capacity
returns-clause-capacity g c = subst (λ r. r.capacity ≤ c.reserve.new.self.capacity) c.self.view_is c.reserve.ensures.capacity
