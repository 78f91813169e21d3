use Rattle.std.proofs.Common.{◌≡◌, ◌-◌, None, Some, false, refl, sym, ap, ◌∙◌, subst}
use Rattle.rambo_run.specs.Runs.{run}
use Rattle.rambo_run.specs.Steps.{meant}
use Rattle.rambo_book.specs.Kept.{state}
use Rattle.rambo_book.specs.Windows.{completed, delivers_gone, gone_of}
use Rattle.rambo_book.proofs.Books.{within}
use Rattle.rambo_book.proofs.Firsts.{serving, unnamed}
use Rattle.rambo_book.proofs.Windows.{named_none, named_kept}
use Rattle.rambo_book.proofs.book.Book.place_of.Goals as goal

pub returns-in-Some-clause-own : goal.returns-in-Some-clause-own
returns-in-Some-clause-own g c = λ there m e.
    let s = g.Q.Quorums.system in
    let b = c.self.inside in
    let w = run s b.founders b.steps.all in
    let st = c.args.step.now in
    let kept = ap (λ n. delivers_gone n st) c.self.invariant.0.gone ∙ subst (λ v. delivers_gone (gone_of g.J.Terms.endless g.J.Terms.capacity (state s v)) st ≡ false) (sym c.self.view_is) there in
    let here = subst (λ b. meant (state s b) st ≡ Some m) (sym c.self.view_is) e in
    let named = c.in-Some.ensures ∙ named_kept w b.letters (within c.self.invariant.0) st kept in
    ap (λ n. n - 1) (c.number.ensures.value ∙ sym (serving w (completed w b.letters) st c.in-Some.name c.in-Some.name c.self.invariant.0.sent named refl m here))

pub returns-in-Some-clause-other : goal.returns-in-Some-clause-other
returns-in-Some-clause-other g c = λ none.
    let s = g.Q.Quorums.system in
    let b = c.self.inside in
    let w = run s b.founders b.steps.all in
    let st = c.args.step.now in
    named_none w b.letters (within c.self.invariant.0) c.self.invariant.0.sent st c.in-Some.name c.in-Some.ensures (subst (λ b. meant (state s b) st ≡ None) (sym c.self.view_is) none)

pub returns-in-None-clause-own : goal.returns-in-None-clause-own
returns-in-None-clause-own g c = λ there m e.
    let s = g.Q.Quorums.system in
    let b = c.self.inside in
    let w = run s b.founders b.steps.all in
    let st = c.args.step.now in
    let kept = ap (λ n. delivers_gone n st) c.self.invariant.0.gone ∙ subst (λ v. delivers_gone (gone_of g.J.Terms.endless g.J.Terms.capacity (state s v)) st ≡ false) (sym c.self.view_is) there in
    let here = subst (λ b. meant (state s b) st ≡ Some m) (sym c.self.view_is) e in
    absurd (unnamed w (completed w b.letters) st m c.self.invariant.0.sent (c.in-None.ensures ∙ named_kept w b.letters (within c.self.invariant.0) st kept) here)
