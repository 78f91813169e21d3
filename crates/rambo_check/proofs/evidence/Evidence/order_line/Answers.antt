use Rattle.std.proofs.Common.{sym, ap, ◌∙◌, bytes_eq, option_map, Some}
use Rattle.std.specs.Option.{option_copied}
use Rattle.rambo_check.proofs.PlacedOrders.{lookup-map}
use Rattle.rambo_check.specs.EvidenceStates.{EvidenceState}
use Rattle.rambo_check.specs.Verdicts.{order_line_of}
use Rattle.rambo_check.specs.declared.order.Placed.{Placed}
use Rattle.rambo_check.proofs.evidence.Evidence.order_line.Goals as goal

pub returns-in-Some : goal.returns-in-Some
returns-in-Some c =
    c.line_of.ensures ∙ ap (option_map (λ (p : Placed). p.line)) c.get.ensures.value
    ∙ sym (lookup-map (bytes_eq c.in-Some.key.now) (λ (p : Placed). p.line) c.self.inside.orders.entries)
    ∙ ap (λ (s : EvidenceState). order_line_of s (Some c.in-Some.key.now)) c.self.view_is
    ∙ ap (λ k. order_line_of c.args.self.now (option_copied k)) (sym c.in-Some.is)
