use Rattle.std.proofs.Common.{◌≡◌, [], vec_len, All}
use Rattle.rambo_cluster.proofs.opening.passes_of.Given as goal

abbrev pub invariant-loop-place : goal.invariant-loop-place
invariant-loop-place g l = (vec_len l.passes ≡ l.place) × All (λ p. p ≡ record { seen = []; mine = [] }) l.passes.items
