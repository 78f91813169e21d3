use Rattle.std.proofs.Common.{Some, ap, ◌∙◌}
use Rattle.rambo_turn.proofs.turn.ready_next.Goals as goal

pub returns-in-Ok-clause-picked : goal.returns-in-Ok-clause-picked
returns-in-Ok-clause-picked g c = λ f e. ap Some c.in-Ok.ensures.step ∙ c.in-Some.ensures.first f e

pub returns-in-Err-clause-something : goal.returns-in-Err-clause-something
returns-in-Err-clause-something g c = (c.in-Some.step, λ f e. c.in-Some.ensures.first f e)
