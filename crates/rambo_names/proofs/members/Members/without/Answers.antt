use Rattle.std.proofs.Common.{◌∙◌}
use Rattle.std.specs.FinSet.{remove}
use Rattle.rambo_names.proofs.MaskSteps.{set_of-clear}
use Rattle.rambo_names.proofs.members.Members.without.Goals as goal

pub returns : goal.returns
returns c =
    set_of-clear _ _ c.number.ensures.range.0 c.number.ensures.range.1
    ∙ (λ i. remove (c.self.view_is i) (c.number.ensures.value i))
