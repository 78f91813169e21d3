use Rattle.std.proofs.lemmas.Grind.{common_steps}
use Rattle.std.proofs.Common.{arith}
use Rattle.rambo_book.proofs.keeper.Keeper.name.Goals as goal

pub returns : goal.returns
returns g c = grind (arith, common_steps)
