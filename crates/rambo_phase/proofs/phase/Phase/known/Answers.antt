use Rattle.std.proofs.Common.{◌≡◌, ℕ, ◌+◌, ◌-◌, ◌<◌, ◌≤◌, ◌^◌, min, length, subst, arith}
use Rattle.rambo_names.proofs.Sizes.{back_fits, up_fits}
use Rattle.rambo_phase.specs.Phases.{above}
use Rattle.rambo_phase.proofs.phase.Phase.known.Goals as goal

pub floor-floor-requires : goal.floor-floor-requires
floor-floor-requires g c = c.requires-raw.1.1

pub len-requires : goal.len-requires
len-requires g c = back_fits _ _ _ (up_fits _ _ _ c.requires-raw.1.1)

held : (lo n floor f before after len sum known : ℕ) → f ≡ floor → before ≡ lo - f → after ≡ f - lo → len ≡ n → len < 2 ^ 64
    → sum ≡ min (before + len) (2 ^ 64 - 1) → known ≡ sum - after → lo + n ≤ 2 ^ 64 → known ≡ min (lo + n - floor) (2 ^ 64 - 1)
held lo n floor f before after len sum known e b a l s t k h = omega (arith, e, b, a, l, s, t, k, h)

pub returns : goal.returns
returns g c =
    subst (λ p. c.saturating_sub.result ≡ min (above p.state - c.args.map.now.floor) (2 ^ 64 - 1)) c.self.view_is
    (held c.self.inside.lo (length c.self.inside.places.configs) c.args.map.now.floor c.floor-floor.result c.saturating_sub-before.result
    c.saturating_sub-after.result c.len.result c.saturating_add.result c.saturating_sub.result c.floor-floor.ensures c.saturating_sub-before.ensures
    c.saturating_sub-after.ensures c.len.ensures c.len.type_inv c.saturating_add.ensures c.saturating_sub.ensures c.self.invariant.0)
