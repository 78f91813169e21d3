use Rattle.std.proofs.Common.{ap, ◌∙◌, is_some}
use Rattle.rambo_atomic.proofs.Answered.{answered-placed}
use Rattle.rambo_atomic.proofs.checker.is_answered.Goals as goal

pub returns : goal.returns
returns c = c.is_some.ensures ∙ ap is_some c.answered_at.ensures ∙ answered-placed c.args.history.now.events c.args.id.now
