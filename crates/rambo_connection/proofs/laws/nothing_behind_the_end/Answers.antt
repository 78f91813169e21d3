use Rattle.rambo_connection.proofs.Stories.{nothing_behind}
use Rattle.rambo_connection.proofs.laws.nothing_behind_the_end.Goals as goal

pub returns : goal.returns
returns c = nothing_behind
