use Rattle.std.proofs.Common.{sym, ap, ◌∙◌, subst, ◌<◌}
use Rattle.rambo_names.proofs.Sizes.{back_fits, up_fits}
use Rattle.rambo_config_map.specs.Maps.{entry_of, entry_at}
use Rattle.rambo_config_map.specs.MapLaws.{entry_kept, entry_removed}
use Rattle.rambo_config_map.proofs.config_map.ConfigMap.entry.Goals as goal

pub returns-then-place-self : goal.returns-then-place-self
returns-then-place-self g c =
    sym (entry_removed c.args.self.now c.args.place (subst (λ m. c.args.place < m.floor) c.self.view_is c.if-place-self.true))

pub overflow_sub-place : goal.overflow_sub-place
overflow_sub-place g c = c.if-place-self.false

pub get-requires : goal.get-requires
get-requires g c = back_fits _ _ _ (up_fits _ _ _ c.requires-raw.1)

pub returns-in-Some : goal.returns-in-Some
returns-in-Some g c =
    ap entry_of (sym c.in-Some.is ∙ c.get.ensures)
    ∙ sym (entry_kept (record { floor = c.self.inside.floor; configs = c.self.inside.places.configs }) c.args.place c.if-place-self.false)
    ∙ ap (λ m. entry_at m c.args.place) c.self.view_is

pub returns-in-None : goal.returns-in-None
returns-in-None g c =
    ap entry_of (sym c.in-None.is ∙ c.get.ensures)
    ∙ sym (entry_kept (record { floor = c.self.inside.floor; configs = c.self.inside.places.configs }) c.args.place c.if-place-self.false)
    ∙ ap (λ m. entry_at m c.args.place) c.self.view_is
