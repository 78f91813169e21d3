-- Reads, one after another
use Rattle.std.proofs.Common.{ℕ, List, ◌++◌, Option, ap, ◌∙◌, append_assoc}
use Rattle.std.proofs.KnownBytes.{Consumes-trans}
use Rattle.rambo_atomic.specs.Unreads.{TakesIn}

pub TakesIn-then : (a b c : Option (List ℕ)) (xs ys zs : List ℕ) → TakesIn a b xs ys → TakesIn b c ys zs → TakesIn a c xs zs
TakesIn-then a b c xs ys zs f g = (
  f.0 ++ g.0,
  Consumes-trans a b c f.0 g.0 f.1 g.1,
  g.2 ∙ ap (λ l. l ++ g.0) f.2 ∙ append_assoc xs f.0 g.0,
)
