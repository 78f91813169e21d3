use Rattle.std.proofs.Common.{◌≡◌, ℕ, ◌+◌, ◌≤◌, ◌^◌, length, sym, ap, ◌∙◌, subst, arith}
use Rattle.std.specs.FinSet as set
use Rattle.rambo_names.proofs.Sizes.{back_fits, up_fits}
use Rattle.rambo_phase.proofs.phase.Phase.begin.Goals as goal

in_range : (floor n lo len : ℕ) → floor + n ≤ 2 ^ 64 → lo ≡ floor → len ≡ n → lo + len ≤ 2 ^ 64
in_range floor n lo len h e k = omega (arith, h, e, k)

few : (n len : ℕ) → len ≡ n → n ≤ 8 → len ≤ 8
few n len e h = omega (arith, e, h)

pub floor-self-inside-requires : goal.floor-self-inside-requires
floor-self-inside-requires g c = c.requires-raw.1.1

pub places-requires : goal.places-requires
places-requires g c = (c.requires-raw.1.1, back_fits _ _ _ (up_fits _ _ _ c.requires-raw.1.1))

pub refill-requires : goal.refill-requires
refill-requires g c =
    (back_fits _ _ _ (up_fits _ _ _ c.requires-raw.1.1), few _ _ (ap length c.places.ensures.row) c.places.ensures.at_most_eight)

pub invariant_of-self : goal.invariant_of-self
invariant_of-self g c = (
  in_range _ _ _ _ c.places.ensures.in_range c.floor-self-inside.ensures (ap length (c.refill.ensures.configs ∙ c.places.ensures.row)),
  subst (λ n. 8 ≤ n) (sym c.refill.ensures.capacity) c.self.invariant.1,
)

pub returns-clause-state : goal.returns-clause-state
returns-clause-state g c =
    let configs = c.refill.ensures.configs ∙ c.places.ensures.row in
    let repliers = c.with-self-inside.ensures ∙ ap (λ s. set.insert s c.args.me) c.empty.ensures in
    λ i. record { number = c.args.number; lo = c.floor-self-inside.ensures i; configs = configs i; repliers = repliers i }

pub returns-clause-capacity : goal.returns-clause-capacity
returns-clause-capacity g c = c.refill.ensures.capacity ∙ ap (λ p. p.capacity) c.self.view_is
