use Rattle.std.proofs.lemmas.Grind.{common_steps}
use Rattle.std.proofs.Common.{arith, ◌≡◌, ◌≤◌, List, length, Option, Some, refl, sym, ap, ◌∙◌, subst}
use Rattle.std.proofs.lemmas.List.{length-map}
use Rattle.std.proofs.lemmas.Bool.{true≢false}
use Rattle.rambo_names.proofs.Errors.{err_kept, err_if_ok}
use Rattle.rambo_names.proofs.Sizes.{back_fits, up_fits}
use Rattle.rambo_config_map.specs.Rows.{filled}
use Rattle.rambo_config_map.proofs.Rows.{full, kept, slots_of}
use Rattle.rambo_config_map.proofs.places.Places.copy.Goals as goal

-- there is room for eight in every such vector
room : (g : _) (c : goal.In_ok-slots g) → 8 ≤ c.in_ok-slots.slots.capacity
room g c = grind (arith, common_steps)

pub allocator-requires : goal.allocator-requires
allocator-requires g c = back_fits _ _ _ (up_fits _ _ _ c.requires-raw.1)

pub as_slice-requires : goal.as_slice-requires
as_slice-requires g c = back_fits _ _ _ (up_fits _ _ _ c.requires-raw.1)

pub from_slice-requires : goal.from_slice-requires
from_slice-requires g c = back_fits _ _ _ (up_fits _ _ _ c.requires-raw.1)

short : {Q : Type 0} (slots slice : List (Option Q)) (xs : List Q) → slots ≡ full (filled slots) → filled slots ≡ xs → slice ≡ slots
    → length xs ≤ 8 → length slice ≤ 8
short slots slice xs no_gap has same h =
    subst (λ n. n ≤ 8) (sym (ap length (same ∙ slots_of slots xs no_gap has) ∙ length-map xs (λ x. Some x))) h

pub returns-in_err-slots-clause-ok : goal.returns-in_err-slots-clause-ok
returns-in_err-slots-clause-ok g c = err_if_ok c.from_residual.result _ _ c.from_residual.ensures.1

pub returns-in_err-slots-clause-refused : goal.returns-in_err-slots-clause-refused
returns-in_err-slots-clause-refused g c = err_kept c.from_residual.result _ _ c.from_residual.ensures.1 refl

pub returns-in_err-slots-clause-succeeds : goal.returns-in_err-slots-clause-succeeds
returns-in_err-slots-clause-succeeds g c = λ h. absurd (true≢false (sym (c.in_err-slots.ensures.succeeds
    (short c.self.inside.slots.items c.as_slice.result.now c.args.self.now.configs c.self.invariant.1 (ap (λ r. r.configs) c.self.view_is) c.as_slice.ensures h))))

pub returns-in_err-slots-clause-room : goal.returns-in_err-slots-clause-room
returns-in_err-slots-clause-room g c = err_if_ok c.from_residual.result _ _ c.from_residual.ensures.1

pub returns-in_err-slots-clause-inline : goal.returns-in_err-slots-clause-inline
returns-in_err-slots-clause-inline g c = λ _. err_if_ok c.from_residual.result _ _ c.from_residual.ensures.1

pub invariant_of-result : goal.invariant_of-result
invariant_of-result g c = (room g c, (kept c.in_ok-slots.slots.items (filled c.self.inside.slots.items) (c.in_ok-slots.ensures.ok ∙ c.as_slice.ensures ∙ c.self.invariant.1)).1)

pub returns-clause-ok : goal.returns-clause-ok
returns-clause-ok g c = ap filled (c.in_ok-slots.ensures.ok ∙ c.as_slice.ensures) ∙ ap (λ r. r.configs) c.self.view_is

pub returns-clause-refused : goal.returns-clause-refused
returns-clause-refused g c = tt

pub returns-clause-succeeds : goal.returns-clause-succeeds
returns-clause-succeeds g c = λ _. refl

pub returns-clause-room : goal.returns-clause-room
returns-clause-room g c = room g c

pub returns-clause-inline : goal.returns-clause-inline
returns-clause-inline g c = λ h. c.in_ok-slots.ensures.inline
    (short c.self.inside.slots.items c.as_slice.result.now c.args.self.now.configs c.self.invariant.1 (ap (λ r. r.configs) c.self.view_is) c.as_slice.ensures h)
