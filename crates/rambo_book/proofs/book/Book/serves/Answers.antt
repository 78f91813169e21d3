use Rattle.std.proofs.Common.{◌≡◌, true, false, ap, ◌∙◌, sym, subst, eqb-true, eq-eqb}
use Rattle.rambo_run.specs.Runs.{run}
use Rattle.rambo_book.specs.Kept.{IsServedBy, state}
use Rattle.rambo_book.specs.Windows.{completed, delivers_gone, gone_of}
use Rattle.rambo_book.proofs.Books.{within}
use Rattle.rambo_book.proofs.Firsts.{serving, unserved}
use Rattle.rambo_book.proofs.Windows.{named_kept, named_gone, named_own}
use Rattle.rambo_book.proofs.book.Book.serves.Goals as goal

pub returns-in-Some-clause-served : goal.returns-in-Some-clause-served
returns-in-Some-clause-served g c = λ is there.
    let s = g.Q.Quorums.system in
    let b = c.self.inside in
    let w = run s b.founders b.steps.all in
    let st = c.args.step.now in
    let kept = ap (λ n. delivers_gone n st) c.self.invariant.0.gone ∙ subst (λ v. delivers_gone (gone_of g.J.Terms.endless g.J.Terms.capacity (state s v)) st ≡ false) (sym c.self.view_is) there in
    subst (λ b. IsServedBy (state s b) st c.args.name) c.self.view_is
    (serving w (completed w b.letters) st c.in-Some.own c.args.name c.self.invariant.0.sent (c.in-Some.ensures ∙ named_kept w b.letters (within c.self.invariant.0) st kept) (eqb-true c.in-Some.own c.args.name (sym c.eq.ensures ∙ is)))

pub returns-in-Some-clause-unserved : goal.returns-in-Some-clause-unserved
returns-in-Some-clause-unserved g c = λ served.
    let s = g.Q.Quorums.system in
    let b = c.self.inside in
    let w = run s b.founders b.steps.all in
    let st = c.args.step.now in
    let here = subst (λ b. IsServedBy (state s b) st c.args.name) (sym c.self.view_is) served in
    c.eq.ensures ∙ eq-eqb c.in-Some.own c.args.name (named_own w b.letters (within c.self.invariant.0) c.self.invariant.0.sent st c.in-Some.own c.args.name c.in-Some.ensures here)

pub returns-in-Some-clause-gone : goal.returns-in-Some-clause-gone
returns-in-Some-clause-gone g c = λ gone.
    let s = g.Q.Quorums.system in
    let b = c.self.inside in
    let st = c.args.step.now in
    let here = ap (λ n. delivers_gone n st) c.self.invariant.0.gone ∙ subst (λ v. delivers_gone (gone_of g.J.Terms.endless g.J.Terms.capacity (state s v)) st ≡ true) (sym c.self.view_is) gone in
    named_gone b.letters st c.in-Some.own here c.in-Some.ensures

pub returns-in-None-clause-served : goal.returns-in-None-clause-served
returns-in-None-clause-served g c = λ is there.
    let s = g.Q.Quorums.system in
    let b = c.self.inside in
    let w = run s b.founders b.steps.all in
    let st = c.args.step.now in
    let kept = ap (λ n. delivers_gone n st) c.self.invariant.0.gone ∙ subst (λ v. delivers_gone (gone_of g.J.Terms.endless g.J.Terms.capacity (state s v)) st ≡ false) (sym c.self.view_is) there in
    subst (λ b. IsServedBy (state s b) st c.args.name) c.self.view_is
    (unserved w (completed w b.letters) st c.args.name c.self.invariant.0.sent (c.in-None.ensures ∙ named_kept w b.letters (within c.self.invariant.0) st kept))
