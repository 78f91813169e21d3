use Rattle.std.proofs.Common.{◌≡◌, ◌++◌, ℕ, List, map, take, drop}
use Rattle.rambo_placing.specs.Placings.{with_gets}
use Rattle.rambo_check.specs.declared.order.Placed.{Placed}
use Rattle.rambo_check.proofs.evidence.place_each.Given as goal

abbrev pub invariant-loop-place : goal.invariant-loop-place
invariant-loop-place l =
    l.orders.entries
    ≡ map (λ (e : List ℕ × Placed). (e.0, record e.1 { order = with_gets l.placing e.0 e.1.order })) (take l.place l.initial.orders.entries)
    ++ drop l.place l.initial.orders.entries
