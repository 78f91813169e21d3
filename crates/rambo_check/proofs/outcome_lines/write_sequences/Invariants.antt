use Rattle.std.proofs.Common.{◌≡◌, ◌++◌, ℕ, List, map, length}
use Rattle.rambo_check.specs.declared.order.Placed.{Placed}
use Rattle.rambo_check.specs.Lines.{Item, Ordered, items_text}
use Rattle.rambo_check.proofs.outcome_lines.write_sequences.Given as goal

abbrev pub invariant-loop-key : goal.invariant-loop-key
invariant-loop-key l =
    let line : List ℕ × Placed → Item = λ o. Ordered (record { key = o.0; calls = o.1.order }) in
    l.out.items ++ items_text (map line l.rest) ≡ l.initial.out.items ++ items_text (map line l.orders.entries)

abbrev pub decreases-loop-key : goal.decreases-loop-key
decreases-loop-key l = length l.rest
