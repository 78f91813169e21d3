use Rattle.rambo_names.specs.Same.{same_names-decides}
use Rattle.rambo_phase.proofs.phase.are_same.Goals as goal

pub returns : goal.returns
returns c = rw c.eq.ensures (same_names-decides c.args.names c.args.others)
