use Rattle.rambo_lines.proofs.Fronts.{first_set}
use Rattle.rambo_lines.proofs.front.first_set.Goals as goal

pub returns : goal.returns
returns c =
    let name = c.in-Some.ensures.found in
    let key = c.in-Some-leading_hex.ensures in
    let value = c.in-Some-leading_hex-2.ensures in
    first_set _ _ _ _ _ _ _ _ _ _ name.0 key.bytes.0 key.bytes.1 value.bytes.0 value.bytes.1 name.1.whole c.in_ok-words.ensures key.found c.in_ok-word.ensures value.found c.in_ok-rest.ensures
