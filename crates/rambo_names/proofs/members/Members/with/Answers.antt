use Rattle.std.proofs.Common.{◌∙◌, arith}
use Rattle.std.specs.FinSet.{insert}
use lib.Bits.{or_lt}
use Rattle.rambo_names.proofs.MaskSteps.{set_of-put}
use Rattle.rambo_names.proofs.members.Members.with.Goals as goal

pub invariant_of-result : goal.invariant_of-result
invariant_of-result c = or_lt 64 _ _ c.self.invariant (omega arith)

pub returns : goal.returns
returns c =
    set_of-put _ _ c.number.ensures.range.0 c.number.ensures.range.1
    ∙ (λ i. insert (c.self.view_is i) (c.number.ensures.value i))
