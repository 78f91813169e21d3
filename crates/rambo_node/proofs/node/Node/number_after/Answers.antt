use Rattle.std.proofs.lemmas.Grind.{common_steps}
use Rattle.std.proofs.Common.{◌&&◌, Fits, w64, sym, ap, ◌∙◌, arith}
use Rattle.rambo_names.proofs.Sizes.{up_fits, back_fits, next}
use Rattle.rambo_calls.specs.Hearing.{any_gap}
use Rattle.rambo_node.specs.Refusals.{is_last}
use Rattle.rambo_node.proofs.Judged.{gap_next}
use Rattle.rambo_node.proofs.node.Node.number_after.Goals as goal

pub any_gap-requires : goal.any_gap-requires
any_gap-requires g c = (back_fits _ _ _ (next _ _ _ _ (up_fits _ _ _ c.requires-raw.1.1.0)), c.requires-raw.1.1.1.0)

pub overflow_add-result : goal.overflow_add-result
overflow_add-result g c =
    let fits : Fits w64 c.self.inside.number = assumption in
    let next = ap (λ v. any_gap c.args.heard c.args.map.now v.state.calls && is_last v.state.number) c.self.view_is ∙ c.requires in
    gap_next _ _ next (sym c.any_gap.ensures ∙ c.if-any_gap.true) fits

pub returns : goal.returns
returns g c = grind (arith, common_steps)

pub returns-then-any_gap : goal.returns-then-any_gap
returns-then-any_gap g c = grind (arith, common_steps)
