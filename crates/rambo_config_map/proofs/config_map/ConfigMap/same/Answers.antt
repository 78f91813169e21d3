use Rattle.std.proofs.Common.{sym, ap, ◌∙◌}
use Rattle.std.proofs.lemmas.Bool.{eqb-true}
use Rattle.rambo_names.proofs.Sizes.{back_fits, up_fits}
use Rattle.rambo_config_map.proofs.config_map.ConfigMap.same.Goals as goal

pub same-requires : goal.same-requires
same-requires g c = back_fits _ _ _ (up_fits _ _ _ c.requires-raw.1)

pub returns-then-self-other : goal.returns-then-self-other
returns-then-self-other g c = (
  λ t. sym c.self.view_is ∙ (λ i. record { floor = c.if-self-other.true i; configs = c.same.ensures.0 t i }) ∙ c.other.view_is,
  λ e. c.same.ensures.1 (ap (λ m. m.configs) c.self.view_is ∙ ap (λ m. m.configs) e ∙ sym (ap (λ m. m.configs) c.other.view_is)),
)

pub returns-else-self-other : goal.returns-else-self-other
returns-else-self-other g c = (
  λ t. absurd (c.if-self-other.false (eqb-true c.self.inside.floor c.other.inside.floor t)),
  λ e. absurd (c.if-self-other.false (ap (λ m. m.floor) c.self.view_is ∙ ap (λ m. m.floor) e ∙ sym (ap (λ m. m.floor) c.other.view_is))),
)
