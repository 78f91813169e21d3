use Rattle.std.proofs.Common.{map, sym, ap, ◌∙◌}
use Rattle.rambo_check.proofs.PlacedOrders.{keys-map}
use Rattle.rambo_check.specs.EvidenceStates.{EvidenceState}
use Rattle.rambo_check.specs.declared.order.Placed.{Placed}
use Rattle.rambo_check.proofs.evidence.Evidence.keys.Goals as goal

pub returns : goal.returns
returns c =
    c.as_slice.ensures ∙ c.keys.ensures.rest ∙ sym (keys-map (λ (p : Placed). p.order) c.self.inside.orders.entries)
    ∙ ap (λ (s : EvidenceState). map (λ o. o.0) s.orders) c.self.view_is
