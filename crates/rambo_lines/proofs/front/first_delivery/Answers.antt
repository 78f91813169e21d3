use Rattle.rambo_lines.proofs.Fronts.{first_delivery}
use Rattle.rambo_lines.proofs.front.first_delivery.Goals as goal

pub returns : goal.returns
returns c =
    let found = c.in_ok-letter.ensures.found in
    first_delivery _ _ _ _ found.0 found.1.whole c.in_ok-rest.ensures
