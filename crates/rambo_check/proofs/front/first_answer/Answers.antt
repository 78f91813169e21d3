use Rattle.rambo_check.proofs.Fronts.{first_answer}
use Rattle.rambo_check.proofs.front.first_answer.Goals as goal

pub returns : goal.returns
returns c =
    let call = c.in-Some.ensures.found in
    let answer = c.in-Some-first_answered.ensures in
    first_answer _ _ _ _ _ call.0 answer.0 call.1.whole answer.1
