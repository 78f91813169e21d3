use Rattle.std.proofs.Common.{◌≡◌, ◌++◌, None, take}
use Rattle.rambo_placing.specs.Placings.{in_places, readers}
use Rattle.rambo_placing.proofs.placing.Placing.with_gets.Given as goal

abbrev pub invariant-loop-id : goal.invariant-loop-id
invariant-loop-id l = l.placed.items ≡ readers l.self l.key None ++ in_places l.self l.key (take l.id-index l.order)
