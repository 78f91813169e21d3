use Rattle.std.proofs.lemmas.Grind.{common_steps}
use Rattle.std.proofs.Common.{arith}
use Rattle.rambo_node.proofs.turns.go_on.Goals as goal

pub top-requires : goal.top-requires
top-requires g c = assumption

pub active_at-requires : goal.active_at-requires
active_at-requires g c = assumption

pub unreachable-requires : goal.unreachable-requires
unreachable-requires g c = grind (arith, common_steps)

pub unreachable-requires-in-Err : goal.unreachable-requires-in-Err
unreachable-requires-in-Err g c = grind (arith, common_steps)

pub unreachable-unreachable-in-Err : goal.unreachable-unreachable-in-Err
unreachable-unreachable-in-Err g c = assumption

pub returns-clause-bid : goal.returns-clause-bid
returns-clause-bid g c = grind (arith, common_steps)

pub returns-clause-attempt : goal.returns-clause-attempt
returns-clause-attempt g c = grind (arith, common_steps)

pub returns-clause-vote : goal.returns-clause-vote
returns-clause-vote g c = grind (arith, common_steps)

pub unreachable-unreachable : goal.unreachable-unreachable
unreachable-unreachable g c = assumption
