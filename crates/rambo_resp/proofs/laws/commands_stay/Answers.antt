use Rattle.rambo_resp.proofs.Unique.{commands_stay}
use Rattle.rambo_resp.proofs.laws.commands_stay.Goals as goal

pub returns : goal.returns
returns c = commands_stay
