use Rattle.std.proofs.Common.{None, if◌then◌else◌, ap, ◌∙◌}
use Rattle.std.specs.Map.{lookup}
use Rattle.rambo_history.specs.Calls.{same_call}
use Rattle.rambo_book.specs.OpenCalls.{OpenState}
use Rattle.rambo_book.proofs.open_calls.OpenCalls.forget.Goals as goal

pub returns-clause-rest : goal.returns-clause-rest
returns-clause-rest c = λ q. c.remove.ensures.updates.0 q ∙ ap (λ (o : OpenState). if same_call c.args.id.now q then None else lookup (same_call q) o.calls) c.self.view_is
