use Rattle.rambo_resp.proofs.Unique.{one_reading}
use Rattle.rambo_resp.proofs.laws.one_reading.Goals as goal

pub returns : goal.returns
returns c = one_reading
