use Rattle.std.proofs.Common.{◌≡◌, ℕ, List, ap, ◌∙◌}
use Rattle.indexmap.specs.IndexMap.{set_value_at}
use Rattle.rambo_placing.specs.Placings.{with_gets}
use Rattle.rambo_check.specs.declared.order.Placed.{Placed}
use Rattle.rambo_check.proofs.PlacedOrders.{changed-on}
use Rattle.rambo_check.proofs.evidence.place_each.Goals as goal

pub loop-place-preserved : goal.loop-place-preserved
loop-place-preserved c =
    let h = c.args.placing.now in
    let k = c.pair_mut-placed.result.0.now in
    let v = c.pair_mut-placed.result.1.now in
    let put : List ℕ × Placed → Placed = λ e. record e.1 { order = with_gets h e.0 e.1.order } in
    let order : c.in_ok-calls.calls.items ≡ with_gets h k v.order
    = c.in_ok-calls.ensures.placed ∙ ap (with_gets h k) (c.as_slice.ensures.value ∙ ap (λ (p : Placed). p.order) c.placed.view_is) in
    ap (set_value_at c.loop-place.orders.entries c.loop-place.place)
    (λ j. let p : Placed = record { order = order j; line = (ap (λ (p : Placed). p.line) c.placed.view_is) j } in p)
    ∙ changed-on put c.args.orders.now.entries c.loop-place.orders.entries c.loop-place.place k v c.loop-place.invariant c.pair_mut-placed.ensures.value
