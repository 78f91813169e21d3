use Rattle.rambo_commands.proofs.OneRequest.{asks_once}
use Rattle.rambo_commands.proofs.laws.one_request.Goals as goal

pub returns : goal.returns
returns c = asks_once
