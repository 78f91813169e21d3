use Rattle.std.proofs.Common.{◌∙◌}
use Rattle.rambo_names.specs.Weights.{outweighs}
use Rattle.rambo_names.proofs.WeightCounts.{evenly-majority}
use Rattle.rambo_names.proofs.weighted.Weighted.of.Goals as goal

pub returns-clause-majority : goal.returns-clause-majority
returns-clause-majority c who =
    (λ i. outweighs (record { ones = c.args.members; twos = c.empty.ensures i; fours = c.empty-2.ensures i; eights = c.empty-3.ensures i }) who)
    ∙ evenly-majority c.args.members who
