use Rattle.std.proofs.Common.{length, sym, subst}
use Rattle.rambo_letters.specs.Shared.{AreHeld}
use Rattle.rambo_letters.proofs.letters.Letters.reserve.Goals as goal

pub invariant_of-self : goal.invariant_of-self
invariant_of-self g c = subst (AreHeld (length c.self.inside.standings.items)) (sym c.reserve.ensures.items) c.self.invariant

pub invariant_of-self-2 : goal.invariant_of-self-2
invariant_of-self-2 g c = subst (AreHeld (length c.self.inside.standings.items)) (sym c.reserve.ensures.items) c.self.invariant
