use Rattle.std.proofs.Common.{ap, ◌∙◌}
use Rattle.rambo_calls.proofs.open_calls.OpenCalls.as_slice.Goals as goal

pub returns : goal.returns
returns g c = c.as_slice.ensures.value ∙ ap (λ k. k.list) c.self.view_is
