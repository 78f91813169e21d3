use Rattle.std.proofs.Common.{◌≡◌, ℕ, List, map, option_map, sym, ap, ◌∙◌}
use Rattle.rambo_history.specs.declared.event.CallId.{CallId}
use Rattle.rambo_placing.specs.Placings.{with_gets}
use Rattle.rambo_check.proofs.PlacedOrders.{map-twice}
use Rattle.rambo_check.specs.Placings.{with_gets_placed}
use Rattle.rambo_check.specs.declared.order.Placed.{Placed}
use Rattle.rambo_check.proofs.evidence.Evidence.place_gets.Goals as goal

pub returns-clause-placed : goal.returns-clause-placed
returns-clause-placed c =
    let e = c.self.inside in
    let h = e.history.events in
    let put : List ℕ × Placed → List ℕ × Placed = λ o. (o.0, record o.1 { order = with_gets h o.0 o.1.order }) in
    let order : List ℕ × Placed → List ℕ × List CallId = λ o. (o.0, o.1.order) in
    let line : List ℕ × Placed → List ℕ × ℕ = λ o. (o.0, o.1.line) in
    let new : c.place_each.new.orders.entries ≡ map put e.orders.entries
    = c.in_ok-place_each.ensures.placed
    ∙ ap (λ k. map (λ (o : List ℕ × Placed). (o.0, record o.1 { order = with_gets k o.0 o.1.order })) e.orders.entries) c.in_ok-placing.ensures.made in
    let orders = ap (map order) new ∙ map-twice order put e.orders.entries ∙ sym (map-twice (λ (o : List ℕ × List CallId). (o.0, with_gets h o.0 o.1)) order e.orders.entries) in
    let lines = ap (map line) new ∙ map-twice line put e.orders.entries in
    (λ i. record {
      lines = e.lines;
      events = h;
      event_lines = e.event_lines.items;
      orders = orders i;
      order_lines = lines i;
      order = option_map (λ (o : Placed). o.order) e.order;
      order_line = option_map (λ (o : Placed). o.line) e.order;
    })
    ∙ ap with_gets_placed c.self.view_is
