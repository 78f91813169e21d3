use Rattle.rambo_resp.proofs.Unique.{within_limits}
use Rattle.rambo_resp.proofs.laws.within_limits.Goals as goal

pub returns : goal.returns
returns c = within_limits
