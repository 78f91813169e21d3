use Rattle.rambo_placing.proofs.Orders.{stands-behind}
use Rattle.rambo_placing.proofs.laws.gets_stand_behind.Goals as goal

pub returns : goal.returns
returns c = stands-behind
