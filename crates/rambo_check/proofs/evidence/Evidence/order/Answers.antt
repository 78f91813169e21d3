use Rattle.std.proofs.Common.{[], sym, ap, ◌∙◌, bytes_eq, option_map, Option, List}
use Rattle.std.specs.Option.{unwrap_or}
use Rattle.rambo_history.specs.declared.event.CallId.{CallId}
use Rattle.rambo_check.proofs.PlacedOrders.{lookup-map}
use Rattle.rambo_check.specs.EvidenceStates.{EvidenceState}
use Rattle.rambo_check.specs.Verdicts.{order_of}
use Rattle.rambo_check.specs.declared.order.Placed.{Placed}
use Rattle.rambo_check.proofs.evidence.Evidence.order.Goals as goal

pub returns : goal.returns
returns c =
    c.calls_of.ensures ∙ ap (λ (o : Option Placed). unwrap_or (option_map (λ (p : Placed). p.order) o) []) c.get.ensures.value
    ∙ sym (ap (λ (o : Option (List CallId)). unwrap_or o []) (lookup-map (bytes_eq c.args.key.now) (λ (p : Placed). p.order) c.self.inside.orders.entries))
    ∙ ap (λ (s : EvidenceState). order_of s c.args.key.now) c.self.view_is
