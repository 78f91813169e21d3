use Rattle.std.proofs.Common.{ap, ◌∙◌}
use Rattle.rambo_names.specs.Names.{count_of}
use Rattle.rambo_names.specs.Weights.{Weights, held}
use Rattle.rambo_names.proofs.WeightCounts.{held_is}
use Rattle.rambo_names.proofs.weighted.Weighted.held.Goals as goal

pub returns-clause-held : goal.returns-clause-held
returns-clause-held c =
    held_is (record { ones = c.self.inside.ones; twos = c.self.inside.twos; fours = c.self.inside.fours; eights = c.self.inside.eights }) c.args.who _ _ _ _
    (c.count.ensures.count ∙ ap count_of c.intersection.ensures) (c.count-2.ensures.count ∙ ap count_of c.intersection-2.ensures)
    (c.count-3.ensures.count ∙ ap count_of c.intersection-3.ensures) (c.count-4.ensures.count ∙ ap count_of c.intersection-4.ensures)
    ∙ ap (λ (w : Weights). held w c.args.who) c.self.view_is
