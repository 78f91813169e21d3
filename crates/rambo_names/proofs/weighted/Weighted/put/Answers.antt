use Rattle.std.proofs.Common.{◌∙◌, ap, arith, nat_eq}
use Rattle.std.specs.Prelude.{if◌then◌else◌}
use Rattle.rambo_names.specs.Weights.{Weights, weight_of}
use Rattle.rambo_names.proofs.WeightChanges.{weighed_at, digits_spell, has_digit}
use Rattle.rambo_names.proofs.weighted.Weighted.put.Goals as goal

pub returns : goal.returns
returns c n =
    let w = c.args.weight in
    (λ i. weight_of (record { ones = c.with_digit-self-inside.ensures i; twos = c.with_digit-self-inside-2.ensures i; fours = c.with_digit-self-inside-3.ensures i; eights = c.with_digit-self-inside-4.ensures i }) n)
    ∙ weighed_at (record { ones = c.self.inside.ones; twos = c.self.inside.twos; fours = c.self.inside.fours; eights = c.self.inside.eights }) c.args.name w (has_digit w 1) (has_digit w 2) (has_digit w 4) (has_digit w 8)
    (digits_spell w (omega (arith, c.requires))) n
    ∙ ap (λ (c' : Weights). if nat_eq n c.args.name then w else weight_of c' n) c.self.view_is
