use Rattle.std.proofs.Common.{sym, ap, ◌∙◌}
use Rattle.std.specs.FinSet as set
use Rattle.rambo_recovery.proofs.Naming.{other_in, own_in}
use Rattle.rambo_recovery.proofs.recovery.with_if.Goals as goal

pub returns-then-has_stopped-clause-own : goal.returns-then-has_stopped-clause-own
returns-then-has_stopped-clause-own c = λ new. ap (λ s. set.contains s c.args.name) c.with.ensures ∙ own_in c.args.members c.args.name ∙ sym c.if-has_stopped.true

pub returns-then-has_stopped-clause-other : goal.returns-then-has_stopped-clause-other
returns-then-has_stopped-clause-other c = λ other differs. ap (λ s. set.contains s other) c.with.ensures ∙ other_in c.args.members c.args.name other differs
