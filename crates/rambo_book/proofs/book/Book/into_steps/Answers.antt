use Rattle.std.proofs.Common.{◌≤◌, length, subst, arith}
use Rattle.rambo_run.specs.Legal.{IsLegal}
use Rattle.rambo_book.specs.Kept.{BookView}
use Rattle.rambo_book.proofs.book.Book.into_steps.Goals as goal

pub returns-clause-legal : goal.returns-clause-legal
returns-clause-legal g c = subst (λ (b : BookView _). IsLegal g.Q.Quorums.system b.founders b.steps) c.self.view_is c.self.invariant.0.legal

pub returns-clause-fits : goal.returns-clause-fits
returns-clause-fits g c =
    let fits : length c.self.inside.steps.all ≤ g.J.Terms.capacity = omega (arith, c.self.invariant.0.fits, c.self.invariant.0.terms) in
    subst (λ (b : BookView _). length b.steps ≤ g.J.Terms.capacity) c.self.view_is fits
