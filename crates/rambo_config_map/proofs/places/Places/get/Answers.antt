use Rattle.std.proofs.lemmas.Grind.{common_steps, elements}
use Rattle.std.proofs.Common.{arith}
use Rattle.rambo_config_map.proofs.places.Places.get.Goals as goal

pub as_slice-requires : goal.as_slice-requires
as_slice-requires g c = grind (arith, common_steps)

pub get-requires : goal.get-requires
get-requires g c = assumption

pub returns-in-Some : goal.returns-in-Some
returns-in-Some g c = grind (arith, elements)

pub returns-in-None : goal.returns-in-None
returns-in-None g c = grind (arith, elements)
