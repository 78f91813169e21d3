use Rattle.rambo_lines.proofs.Fronts.{first_get}
use Rattle.rambo_lines.proofs.front.first_get.Goals as goal

pub returns : goal.returns
returns c =
    let name = c.in-Some.ensures.found in
    let key = c.in-Some-leading_hex.ensures in
    first_get _ _ _ _ _ _ _ name.0 key.bytes.0 key.bytes.1 name.1.whole c.in_ok-word.ensures key.found c.in_ok-rest.ensures
