use Rattle.std.proofs.Common.{subst}
use Rattle.rambo_run.specs.Legal.{IsLegal}
use Rattle.rambo_world.proofs.world.World.steps.Goals as goal

pub returns-clause-accepted : goal.returns-clause-accepted
returns-clause-accepted g c = subst (λ w. IsLegal g.Q.Quorums.system w.founders w.steps) c.self.view_is c.self.invariant.1
