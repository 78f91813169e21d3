use Rattle.std.proofs.Common.{[], subst, sym, ap}
use Rattle.rambo_sequence.specs.Marks.{marks_at}
use Rattle.rambo_run.specs.Chronicles.{IsSettled}
use Rattle.rambo_run.proofs.Settled.{settled_none}
use Rattle.rambo_run.proofs.chronicle.Chronicle.new.Goals as goal

pub invariant_of-result : goal.invariant_of-result
invariant_of-result c = subst (λ es. IsSettled es c.new-2.result.items) (sym c.new.ensures) (subst (IsSettled []) (sym c.new-2.ensures.items) settled_none)

pub returns-clause-marks : goal.returns-clause-marks
unfolding marks_at
returns-clause-marks c = ap (marks_at c.new.result.events) c.new-2.ensures.items
