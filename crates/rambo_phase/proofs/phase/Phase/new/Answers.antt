use Rattle.std.proofs.Common.{ℕ, ◌≡◌, ◌+◌, ◌≤◌, ◌^◌, length, sym, ap, arith, le_of_eq}
use Rattle.rambo_phase.proofs.phase.Phase.new.Goals as goal

in_range : (n : ℕ) → n ≡ 0 → 0 + n ≤ 2 ^ 64
in_range n e = omega (arith, e)

pub invariant_of-result : goal.invariant_of-result
invariant_of-result g c = (in_range _ (ap length c.new.ensures.configs), le_of_eq (sym c.new.ensures.inline))

pub returns-clause-state : goal.returns-clause-state
returns-clause-state g c = λ i. record { number = 0; lo = 0; configs = c.new.ensures.configs i; repliers = c.empty.ensures i }

pub returns-clause-inline : goal.returns-clause-inline
returns-clause-inline g c = c.new.ensures.inline
