use Rattle.rambo_lines.proofs.Fronts.{first_advance}
use Rattle.rambo_lines.proofs.front.first_advance.Goals as goal

pub returns : goal.returns
returns c =
    let found = c.in-Some.ensures.found in
    first_advance _ c.in-Some.id _ _ found.0 found.1.whole c.in_ok-rest.ensures
