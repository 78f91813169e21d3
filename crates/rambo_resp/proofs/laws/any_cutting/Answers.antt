use Rattle.rambo_resp.proofs.Unique.{any_cutting}
use Rattle.rambo_resp.proofs.laws.any_cutting.Goals as goal

pub returns : goal.returns
returns c = any_cutting
