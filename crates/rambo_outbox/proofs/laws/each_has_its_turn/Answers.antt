use Rattle.rambo_outbox.proofs.InTurn.{each_has_its_turn, first_is_asked}
use Rattle.rambo_outbox.proofs.laws.each_has_its_turn.Goals as goal

pub returns-clause-turn : goal.returns-clause-turn
returns-clause-turn g c = each_has_its_turn g.Q.Quorums.system

pub returns-clause-asked : goal.returns-clause-asked
returns-clause-asked g c = first_is_asked g.Q.Quorums.system
