use Rattle.std.proofs.Common.{◌≡◌, ℕ, ◌+◌, ◌-◌, ◌≤◌, ◌^◌, min, Result, Ok, Err, List, length, refl, sym, ap, ◌∙◌, subst, arith, le_refl, le_trans}
use Rattle.std.specs.Prelude.{OnOk, OnErr}
use Rattle.rambo_names.proofs.Sizes.{back_fits, up_fits}
use Rattle.rambo_config_map.specs.Maps.{MapState}
use Rattle.rambo_phase.specs.Phases.{PhaseState, above, needed}
use Rattle.rambo_phase.proofs.phase.Phase.reserve.Goals as goal

-- the phase fits in the value itself
inside : {Q : Type 0} (p : PhaseState Q) (m : MapState Q) (len len2 sum cap : ℕ) (own row : List Q) → own ≡ p.configs → row ≡ m.configs
    → len ≡ length own → len2 ≡ length row → sum ≡ min (len + len2) (2 ^ 64 - 1) → sum ≤ 8 → 8 ≤ cap → needed p m ≤ cap
inside p m len len2 sum cap own row same same_row l l2 s few room = omega (arith, ap length same, ap length same_row, l, l2, s, few, room)

on_err_map : {T E : Type 0} (r : Result T E) {P S : Type 0} → (P → S) → OnErr r P → OnErr r S
on_err_map (Ok x) f p = tt
on_err_map (Err x) f p = f p

-- the configurations that room is made for
wanted : {Q : Type 0} (p : PhaseState Q) (m : MapState Q) (known len more : ℕ) (own row : List Q) → own ≡ p.configs → row ≡ m.configs
    → len ≡ length row → length m.configs ≤ 8 → known ≡ min (above p - m.floor) (2 ^ 64 - 1) → more ≡ len - known
    → length own + more ≡ needed p m
wanted p m known len more own row same same_row l few k e = omega (arith, ap length same, ap length same_row, l, few, k, e)

pub places-row-requires : goal.places-row-requires
places-row-requires g c = (c.requires-raw.1.1, back_fits _ _ _ (up_fits _ _ _ c.requires-raw.1.1))

pub len-requires : goal.len-requires
len-requires g c = back_fits _ _ _ (up_fits _ _ _ c.requires-raw.1.1)

pub len-requires-2 : goal.len-requires-2
len-requires-2 g c = back_fits _ _ _ (up_fits _ _ _ c.requires-raw.1.1)

pub len-requires-3 : goal.len-requires-3
len-requires-3 g c = back_fits _ _ _ (up_fits _ _ _ c.requires-raw.1.1)

pub known-requires : goal.known-requires
known-requires g c = c.requires-raw.1

pub reserve-requires : goal.reserve-requires
reserve-requires g c = back_fits _ _ _ (up_fits _ _ _ c.requires-raw.1.1)

pub returns-then-saturating_add-le-INSIDE-clause-state : goal.returns-then-saturating_add-le-INSIDE-clause-state
returns-then-saturating_add-le-INSIDE-clause-state g c = refl

pub returns-then-saturating_add-le-INSIDE-clause-ok : goal.returns-then-saturating_add-le-INSIDE-clause-ok
returns-then-saturating_add-le-INSIDE-clause-ok g c =
    inside c.args.self.now.state c.args.map.now c.len.result c.len-2.result c.saturating_add.result c.args.self.now.capacity c.self.inside.places.configs c.places-row.result.now.configs
    (ap (λ p. p.state.configs) c.self.view_is) c.places-row.ensures.row c.len.ensures c.len-2.ensures c.saturating_add.ensures c.if-saturating_add-le-INSIDE.true
    (subst (λ p. 8 ≤ p.capacity) c.self.view_is c.self.invariant.1)

pub returns-then-saturating_add-le-INSIDE-clause-err : goal.returns-then-saturating_add-le-INSIDE-clause-err
returns-then-saturating_add-le-INSIDE-clause-err g c = tt

pub returns-then-saturating_add-le-INSIDE-clause-refused : goal.returns-then-saturating_add-le-INSIDE-clause-refused
returns-then-saturating_add-le-INSIDE-clause-refused g c = tt

pub returns-then-saturating_add-le-INSIDE-clause-succeeds : goal.returns-then-saturating_add-le-INSIDE-clause-succeeds
returns-then-saturating_add-le-INSIDE-clause-succeeds g c = λ _. refl

pub returns-then-saturating_add-le-INSIDE-clause-had_room : goal.returns-then-saturating_add-le-INSIDE-clause-had_room
returns-then-saturating_add-le-INSIDE-clause-had_room g c = λ _. refl

pub returns-then-saturating_add-le-INSIDE-clause-capacity : goal.returns-then-saturating_add-le-INSIDE-clause-capacity
returns-then-saturating_add-le-INSIDE-clause-capacity g c = le_refl c.args.self.now.capacity

pub invariant_of-self : goal.invariant_of-self
invariant_of-self g c = (
  subst (λ xs. c.self.inside.lo + length xs ≤ 2 ^ 64) (sym c.reserve.ensures.configs) c.self.invariant.0,
  le_trans c.self.invariant.1 c.reserve.ensures.capacity,
)

pub returns-clause-state : goal.returns-clause-state
returns-clause-state g c =
    (λ i. record { number = c.self.inside.number; lo = c.self.inside.lo; configs = c.reserve.ensures.configs i; repliers = c.self.inside.repliers })
    ∙ ap (λ p. p.state) c.self.view_is

pub returns-clause-ok : goal.returns-clause-ok
returns-clause-ok g c =
    subst (λ n. OnOk c.reserve.result (n ≤ c.reserve.new.self.capacity))
    (wanted c.args.self.now.state c.args.map.now c.known.result c.len-3.result c.saturating_sub-more.result c.self.inside.places.configs c.places-row.result.now.configs
    (ap (λ p. p.state.configs) c.self.view_is) c.places-row.ensures.row c.len-3.ensures c.places-row.ensures.at_most_eight c.known.ensures c.saturating_sub-more.ensures)
    c.reserve.ensures.ok

pub returns-clause-err : goal.returns-clause-err
returns-clause-err g c = on_err_map c.reserve.result (λ e. (λ i. record {
  state = record { number = c.self.inside.number; lo = c.self.inside.lo; configs = (e i).configs; repliers = c.self.inside.repliers };
  capacity = (e i).capacity;
}) ∙ c.self.view_is) c.reserve.ensures.err

pub returns-clause-refused : goal.returns-clause-refused
returns-clause-refused g c = c.reserve.ensures.refused

pub returns-clause-succeeds : goal.returns-clause-succeeds
returns-clause-succeeds g c = λ h.
    let needs : length c.self.inside.places.configs + c.saturating_sub-more.result ≡ needed c.args.self.now.state c.args.map.now =
    wanted c.args.self.now.state c.args.map.now c.known.result c.len-3.result c.saturating_sub-more.result c.self.inside.places.configs c.places-row.result.now.configs
    (ap (λ p. p.state.configs) c.self.view_is) c.places-row.ensures.row c.len-3.ensures c.places-row.ensures.at_most_eight c.known.ensures c.saturating_sub-more.ensures in
    c.reserve.ensures.succeeds (subst (λ n. n ≤ c.self.inside.places.capacity) (sym needs) (subst (λ p. needed c.args.self.now.state c.args.map.now ≤ p.capacity) (sym c.self.view_is) h))

pub returns-clause-had_room : goal.returns-clause-had_room
returns-clause-had_room g c = λ h.
    let needs : length c.self.inside.places.configs + c.saturating_sub-more.result ≡ needed c.args.self.now.state c.args.map.now =
    wanted c.args.self.now.state c.args.map.now c.known.result c.len-3.result c.saturating_sub-more.result c.self.inside.places.configs c.places-row.result.now.configs
    (ap (λ p. p.state.configs) c.self.view_is) c.places-row.ensures.row c.len-3.ensures c.places-row.ensures.at_most_eight c.known.ensures c.saturating_sub-more.ensures in
    let e = c.reserve.ensures.had_room (subst (λ n. n ≤ c.self.inside.places.capacity) (sym needs) (subst (λ p. needed c.args.self.now.state c.args.map.now ≤ p.capacity) (sym c.self.view_is) h)) in
    (λ i. record {
      state = record { number = c.self.inside.number; lo = c.self.inside.lo; configs = (e i).configs; repliers = c.self.inside.repliers };
      capacity = (e i).capacity;
    }) ∙ c.self.view_is

pub returns-clause-capacity : goal.returns-clause-capacity
returns-clause-capacity g c = subst (λ p. p.capacity ≤ c.reserve.new.self.capacity) c.self.view_is c.reserve.ensures.capacity
