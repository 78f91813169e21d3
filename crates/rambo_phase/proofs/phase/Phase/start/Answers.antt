use Rattle.std.proofs.Common.{◌∙◌}
use Rattle.rambo_phase.proofs.phase.Phase.start.Goals as goal

pub returns-clause-state : goal.returns-clause-state
returns-clause-state g c = c.begin.ensures.state

pub returns-clause-inline : goal.returns-clause-inline
returns-clause-inline g c = c.begin.ensures.capacity ∙ c.new-phase.ensures.inline
