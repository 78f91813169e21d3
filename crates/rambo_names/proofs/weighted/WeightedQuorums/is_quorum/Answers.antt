use Rattle.std.proofs.Common.{sym, ap, ◌∙◌}
use Rattle.rambo_names.specs.Quorums.{is_majority}
use Rattle.rambo_names.specs.Weights.{Weights, outweighs}
use Rattle.rambo_names.specs.WeightLaws.{same_weights-path}
use Rattle.rambo_names.proofs.weighted.WeightedQuorums.is_quorum.Goals as goal

pub returns-then-eq : goal.returns-then-eq
returns-then-eq c =
    let even = same_weights-path c.args.self.now c.of.result (sym c.eq.ensures ∙ c.if-eq.true) in
    c.is_quorum.ensures ∙ ap (λ members. is_majority members c.args.who) c.of-then-eq.ensures
    ∙ sym (c.of.ensures.majority c.args.who) ∙ ap (λ (w : Weights). outweighs w c.args.who) (sym even)
