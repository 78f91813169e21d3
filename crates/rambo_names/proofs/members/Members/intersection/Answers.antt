use Rattle.std.proofs.Common.{◌∙◌}
use Rattle.std.specs.FinSet.{intersection}
use Rattle.rambo_names.proofs.MaskSteps.{set_of-and}
use Rattle.rambo_names.proofs.members.Members.intersection.Goals as goal

pub returns : goal.returns
returns c = set_of-and _ _ ∙ (λ i. intersection (c.self.view_is i) (c.other.view_is i))
