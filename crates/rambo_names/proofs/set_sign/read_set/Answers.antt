use Rattle.std.proofs.Common.{◌≢◌, ap, sym, ◌∙◌, subst, true≢false}
use Rattle.std.specs.Prelude.{IfNone}
use Rattle.rambo_names.specs.Names.{NameSet}
use Rattle.rambo_names.specs.Signs.{conf_text, set_text}
use Rattle.rambo_names.specs.Weights.{evenly}
use Rattle.rambo_names.specs.WeightLaws.{same_weights, same_weights-path}
use Rattle.rambo_names.proofs.ConfTexts.{even_text}
use Rattle.rambo_names.proofs.ConfOnce.{even_tested}
use Rattle.rambo_names.proofs.set_sign.read_set.Goals as goal

pub returns-in_err-conf-clause-none : goal.returns-in_err-conf-clause-none
returns-in_err-conf-clause-none c =
    subst (λ o. IfNone o ((s : NameSet) → c.args.bytes.now ≢ set_text s)) (sym c.from_residual.ensures)
    (λ s e. c.in_err-conf.ensures.none (evenly s) (e ∙ sym (even_text s)))

pub returns-then-eq-clause-found : goal.returns-then-eq-clause-found
returns-then-eq-clause-found c =
    let is = same_weights-path c.in_ok-conf.conf c.of.result (sym c.eq.ensures ∙ c.if-eq.true) in
    c.in_ok-conf.ensures.found ∙ ap conf_text (is ∙ c.of.ensures.even) ∙ even_text c.members-members.result

pub returns-else-eq-clause-none : goal.returns-else-eq-clause-none
returns-else-eq-clause-none c s e =
    true≢false (sym (even_tested c.in_ok-conf.conf s c.in_ok-conf.ensures.names (sym c.in_ok-conf.ensures.found ∙ e))
    ∙ ap (same_weights c.in_ok-conf.conf) (sym (c.of.ensures.even ∙ ap evenly c.members-members.ensures)) ∙ sym c.eq.ensures ∙ c.if-eq.false)
