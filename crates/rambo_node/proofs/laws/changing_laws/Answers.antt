use Rattle.rambo_node.proofs.Judged.{first_is_least}
use Rattle.rambo_node.proofs.Telling.{heard_alike, joined_alike}
use Rattle.rambo_node.proofs.Short.{heard_as_whole}
use Rattle.rambo_node.proofs.laws.changing_laws.Goals as goal

pub returns-clause-least : goal.returns-clause-least
returns-clause-least g c = first_is_least

pub returns-clause-joined : goal.returns-clause-joined
returns-clause-joined g c = heard_alike

pub returns-clause-keys : goal.returns-clause-keys
returns-clause-keys g c x l a b same = heard_alike x l a b (joined_alike x.registers a b same)

pub returns-clause-short : goal.returns-clause-short
returns-clause-short g c = heard_as_whole
