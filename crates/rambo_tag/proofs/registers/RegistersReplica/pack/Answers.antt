use Rattle.std.proofs.Common.{◌≡◌, Result, Ok, Err}
use Rattle.std.specs.Prelude.{IfOk}
use Rattle.rambo_tag.specs.Copies.{Copies}
use Rattle.rambo_tag.specs.Stamps.{Stamps, IsSince}
use Rattle.rambo_tag.proofs.StampLaws.{all_since_zero}
use Rattle.rambo_tag.proofs.registers.RegistersReplica.pack.Goals as goal

all : {E : Type 0} (held : Copies) (s : Stamps) (r : Result Copies E) → IfOk r (λ p. IsSince held s 0 p) → IfOk r (λ p. p ≡ held)
all held s (Ok p) since = all_since_zero held p s since
all held s (Err e) since = tt

pub returns-clause-all : goal.returns-clause-all
returns-clause-all g c = all c.args.self.now.copies c.args.self.now.stamps c.pack_since.result c.pack_since.ensures.since
