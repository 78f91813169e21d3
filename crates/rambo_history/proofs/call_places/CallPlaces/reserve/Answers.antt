use Rattle.std.proofs.Common.{ap, ◌∙◌}
use Rattle.rambo_history.specs.Places.{found, listed, spot_of}
use Rattle.rambo_history.proofs.call_places.CallPlaces.reserve.Goals as goal

pub returns-clause-spots : goal.returns-clause-spots
returns-clause-spots c = λ q. ap (found (listed c.self.inside.lists.items q)) (c.reserve.ensures.entries.2 q) ∙ ap (λ s. spot_of s q) c.self.view_is
