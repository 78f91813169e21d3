use Rattle.std.proofs.Common.{◌≡◌, ℕ, ◌+◌, ◌≤◌, ◌^◌, length, ap, arith}
use Rattle.rambo_names.proofs.Sizes.{back_fits, up_fits}
use Rattle.rambo_config_map.proofs.config_map.ConfigMap.new.Goals as goal

in_range : (n : ℕ) → n ≡ 1 → (1 ≤ n) × (n ≤ 8) × (0 + n ≤ 2 ^ 64)
in_range n e = (omega (arith, e), omega (arith, e), omega (arith, e))

pub one-requires : goal.one-requires
one-requires g c = back_fits _ _ _ (up_fits _ _ _ c.requires-raw.1)

pub invariant_of-result : goal.invariant_of-result
invariant_of-result g c =
    let sum = in_range (length c.one.result.configs) (ap length c.one.ensures.configs) in
    (sum.0, sum.1, sum.2, c.one.ensures.inline)

pub returns : goal.returns
returns g c = λ i. record { floor = 0; configs = c.one.ensures.configs i }
