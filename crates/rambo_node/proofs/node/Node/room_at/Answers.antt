use Rattle.std.proofs.lemmas.Grind.{common_steps}
use Rattle.std.proofs.Common.{arith}
use Rattle.rambo_node.proofs.Late.{late_same}
use Rattle.rambo_node.proofs.node.Node.room_at.Goals as goal

pub invariant_of-self : goal.invariant_of-self
invariant_of-self g c = (c.self.invariant.0, late_same (g.S.Replica.stamps c.self.inside.registers) _ c.self.inside.number c.room_for_key.ensures.stamped c.self.invariant.1)

pub query_at-requires : goal.query_at-requires
query_at-requires g c = assumption

pub returns-in-Some-Set-clause-beside : goal.returns-in-Some-Set-clause-beside
returns-in-Some-Set-clause-beside g c = grind (arith, common_steps)

pub returns-in_default-clause-room : goal.returns-in_default-clause-room
returns-in_default-clause-room g c = grind (arith, common_steps)

pub returns-in-Some-Set-clause-room : goal.returns-in-Some-Set-clause-room
returns-in-Some-Set-clause-room g c = grind (arith, common_steps)

pub returns-in-Some-Set-clause-same : goal.returns-in-Some-Set-clause-same
returns-in-Some-Set-clause-same g c = grind (arith, common_steps)

pub returns-in_default-2-clause-room : goal.returns-in_default-2-clause-room
returns-in_default-2-clause-room g c = grind (arith, common_steps)
