use Rattle.std.proofs.Common.{◌≡◌, ◌≤◌, length, subst, arith}
use Rattle.rambo_book.specs.Kept.{state}
use Rattle.rambo_book.specs.Windows.{gone_of}
use Rattle.rambo_book.proofs.Windows.{bounded_keeps}
use Rattle.rambo_book.proofs.book.Book.facts.Goals as goal

pub returns-clause-kept : goal.returns-clause-kept
returns-clause-kept g c = λ bounded.
    let s = g.Q.Quorums.system in
    let b = c.self.inside in
    let fits : length b.steps.all ≤ g.J.Terms.capacity = omega (arith, c.self.invariant.0.fits, c.self.invariant.0.terms) in
    subst (λ v. gone_of g.J.Terms.endless g.J.Terms.capacity (state s v) ≡ 0) c.self.view_is (bounded_keeps s b.founders b.steps.all g.J.Terms.endless g.J.Terms.capacity bounded fits)
