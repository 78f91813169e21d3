use Rattle.std.proofs.Common.{ap, ◌∙◌}
use Rattle.std.proofs.lemmas.Result.{on_ok_weaker}
use Rattle.rambo_node.specs.Kept.{answered_from}
use Rattle.rambo_names.proofs.Sizes.{up_fits, back_fits, next, variant_fits}
use Rattle.rambo_node.proofs.node.Node.tell_answer.Goals as goal

pub call_at-requires : goal.call_at-requires
call_at-requires g c =
    let calls = back_fits _ _ _ (next _ _ _ _ (up_fits _ _ _ c.requires-raw.1.1.0)) in
    (c.requires-raw.1.1.0, variant_fits _ _ _ _ (back_fits _ _ _ (up_fits _ _ _ calls)))

pub tell_answered-requires : goal.tell_answered-requires
tell_answered-requires g c = (variant_fits _ _ _ _ (back_fits _ _ _ (up_fits _ _ _ (back_fits _ _ _ (next _ _ _ _ (up_fits _ _ _ c.requires-raw.1.1.0))))), c.requires)

pub returns-clause-deed : goal.returns-clause-deed
returns-clause-deed g c =
    on_ok_weaker c.tell_answered.result (λ e. e ∙ ap (answered_from c.args.id) c.call_at.ensures) c.tell_answered.ensures.ok
