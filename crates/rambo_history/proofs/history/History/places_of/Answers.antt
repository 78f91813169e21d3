use Rattle.std.proofs.Common.{ap, ◌∙◌}
use Rattle.std.specs.Option.{option_map}
use Rattle.rambo_history.specs.Places.{places_in, places_of}
use Rattle.rambo_history.proofs.history.History.places_of.Goals as goal

pub returns-clause-places : goal.returns-clause-places
returns-clause-places c =
    ap (option_map places_of) c.get.ensures ∙ c.self.invariant.indexed c.args.id.now ∙ ap (λ h. places_in h.events c.args.id.now) c.self.view_is
