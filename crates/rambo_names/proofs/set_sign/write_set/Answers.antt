use Rattle.std.proofs.Common.{◌++◌, ap, ◌∙◌, subst}
use Rattle.std.specs.Prelude.{OnOk, ◌≡◌}
use Rattle.rambo_names.specs.Signs.{conf_text}
use Rattle.rambo_names.proofs.ConfTexts.{even_text}
use Rattle.rambo_names.proofs.set_sign.write_set.Goals as goal

pub returns-clause-ok : goal.returns-clause-ok
returns-clause-ok g c =
    subst (λ t. OnOk c.write_conf.result (c.write_conf.new.out.items ≡ c.args.out.now.items ++ t))
    (ap conf_text c.of.ensures.even ∙ even_text c.args.members.now) c.write_conf.ensures.ok
