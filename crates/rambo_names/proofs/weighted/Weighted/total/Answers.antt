use Rattle.std.proofs.Common.{ap, ◌∙◌}
use Rattle.rambo_names.specs.Weights.{total}
use Rattle.rambo_names.proofs.WeightCounts.{total_is}
use Rattle.rambo_names.proofs.weighted.Weighted.total.Goals as goal

pub returns-clause-total : goal.returns-clause-total
returns-clause-total c =
    total_is (record { ones = c.self.inside.ones; twos = c.self.inside.twos; fours = c.self.inside.fours; eights = c.self.inside.eights }) _ _ _ _ c.count.ensures.count c.count-2.ensures.count c.count-3.ensures.count c.count-4.ensures.count
    ∙ ap total c.self.view_is
