use Rattle.std.proofs.Common.{ap, ◌∙◌}
use Rattle.std.specs.Map.{lookup}
use Rattle.rambo_history.specs.Calls.{same_call}
use Rattle.rambo_book.specs.OpenCalls.{OpenState}
use Rattle.rambo_book.proofs.open_calls.OpenCalls.reserve.Goals as goal

pub returns-clause-same : goal.returns-clause-same
returns-clause-same c = λ q. c.reserve.ensures.entries.2 q ∙ ap (λ (o : OpenState). lookup (same_call q) o.calls) c.self.view_is
