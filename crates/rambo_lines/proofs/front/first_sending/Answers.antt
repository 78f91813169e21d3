use Rattle.rambo_lines.proofs.Fronts.{first_sending}
use Rattle.rambo_lines.proofs.front.first_sending.Goals as goal

pub returns : goal.returns
returns c =
    let from = c.in-Some.ensures.found in
    let to = c.in-Some-leading_name.ensures.found in
    first_sending _ _ _ _ _ _ _ _ from.0 to.0 c.in_ok-names.ensures from.1.whole c.in_ok-name.ensures to.1.whole c.in_ok-rest.ensures
