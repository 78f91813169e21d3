use Rattle.std.proofs.Common.{◌≡◌, ◌+◌, ℕ, List, [], ◌∷◌, ◌++◌, sym, ap, ◌∙◌, refl, inl, inr, bytes_eq, map, is_some, Option, option_map}
use Rattle.std.specs.Map.{lookup}
use Rattle.indexmap.proofs.CallerLemmas.{insert_entry-new}
use Rattle.rambo_check.proofs.PlacedOrders.{lookup-map, map-push, none-mapped}
use Rattle.rambo_check.specs.EvidenceStates.{EvidenceState, with_item}
use Rattle.rambo_check.specs.Lines.{Ordered}
use Rattle.rambo_check.specs.declared.order.Placed.{Placed}
use Rattle.rambo_check.proofs.evidence.Evidence.put.Goals as goal

pub returns-in-Ok-None-clause-fits : goal.returns-in-Ok-None-clause-fits
returns-in-Ok-None-clause-fits c =
    ap (λ (s : EvidenceState). lookup (bytes_eq c.args.key) s.orders) (sym c.self.view_is)
    ∙ lookup-map (bytes_eq c.args.key) (λ (p : Placed). p.order) c.self.inside.orders.entries
    ∙ none-mapped (λ (p : Placed). p.order) _ (sym c.in-Ok-None.ensures.old ∙ c.in-Ok-None.field-0-is)

pub returns-in-Ok-None-clause-put : goal.returns-in-Ok-None-clause-put
returns-in-Ok-None-clause-put c =
    let e = c.self.inside in
    let x : List ℕ × Placed = (c.args.key, record { order = c.args.order; line = e.lines + 1 }) in
    let new : c.insert.new.self.entries ≡ e.orders.entries ++ x ∷ [] =
    c.in-Ok-None.ensures.entries ∙ insert_entry-new bytes_eq e.orders c.args.key x.1 (sym c.in-Ok-None.ensures.old ∙ c.in-Ok-None.field-0-is) in
    let orders = ap (map (λ (o : List ℕ × Placed). (o.0, o.1.order))) new ∙ map-push (λ (o : List ℕ × Placed). (o.0, o.1.order)) e.orders.entries x in
    let lines = ap (map (λ (o : List ℕ × Placed). (o.0, o.1.line))) new ∙ map-push (λ (o : List ℕ × Placed). (o.0, o.1.line)) e.orders.entries x in
    (λ i. record {
      lines = e.lines + 1;
      events = e.history.events;
      event_lines = e.event_lines.items;
      orders = orders i;
      order_lines = lines i;
      order = option_map (λ (o : Placed). o.order) e.order;
      order_line = option_map (λ (o : Placed). o.line) e.order;
    })
    ∙ ap (λ (s : EvidenceState). with_item s (Ordered (record { key = c.args.key; calls = c.args.order }))) c.self.view_is

pub returns-in-Ok-Some-clause-fault : goal.returns-in-Ok-Some-clause-fault
returns-in-Ok-Some-clause-fault c =
    inr (
      refl,
      ap (λ (s : EvidenceState). is_some (lookup (bytes_eq c.args.key) s.orders)) (sym c.self.view_is)
          ∙ ap is_some (lookup-map (bytes_eq c.args.key) (λ (p : Placed). p.order) c.self.inside.orders.entries)
          ∙ ap (λ (o : Option Placed). is_some (option_map (λ (p : Placed). p.order) o)) (sym c.in-Ok-Some.ensures.old ∙ c.in-Ok-Some.field-0-is),
    )

pub returns-clause-fault : goal.returns-clause-fault
returns-clause-fault c =
    inl (
      refl,
      ap (λ (s : EvidenceState). lookup (bytes_eq c.args.key) s.orders) (sym c.self.view_is)
          ∙ lookup-map (bytes_eq c.args.key) (λ (p : Placed). p.order) c.self.inside.orders.entries
          ∙ none-mapped (λ (p : Placed). p.order) _ c.in-Err.ensures.absent,
    )
