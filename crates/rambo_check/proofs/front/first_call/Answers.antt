use Rattle.rambo_check.proofs.Fronts.{first_call}
use Rattle.rambo_check.proofs.front.first_call.Goals as goal

pub returns : goal.returns
returns c =
    let call = c.in-Some.ensures.found in
    let op = c.in-Some-first_op.ensures in
    first_call _ _ _ _ _ call.0 op.0 call.1.whole op.1
