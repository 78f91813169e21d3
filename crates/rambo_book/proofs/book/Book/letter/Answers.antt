use Rattle.std.proofs.Common.{◌≡◌, None, false, sym, ap, ◌∙◌, subst}
use Rattle.std.specs.Option.{option_copied}
use Rattle.rambo_run.specs.Runs.{run}
use Rattle.rambo_run.specs.Worlds.{letter_at}
use Rattle.rambo_book.specs.Kept.{IsLetterOf, state}
use Rattle.rambo_book.specs.Windows.{gone_of, is_gone}
use Rattle.rambo_book.proofs.Books.{within}
use Rattle.rambo_book.proofs.Windows.{copied_is, kept_sent, none_sent}
use Rattle.rambo_book.proofs.book.Book.letter.Goals as goal

pub returns-clause-sent : goal.returns-clause-sent
returns-clause-sent g c =
    let s = g.Q.Quorums.system in
    let b = c.self.inside in
    let w = run s b.founders b.steps.all in
    copied_is c.of.result (λ l. IsLetterOf (state s c.args.self.now) c.args.number l)
    (λ l is. subst (λ v. IsLetterOf (state s v) c.args.number l) c.self.view_is (kept_sent w b.letters (within c.self.invariant.0) c.self.invariant.0.sent c.args.number l (sym c.of.ensures ∙ is)))

pub returns-clause-none : goal.returns-clause-none
returns-clause-none g c = λ none there.
    let s = g.Q.Quorums.system in
    let b = c.self.inside in
    let w = run s b.founders b.steps.all in
    let number = c.args.number in
    let here = subst (λ v. is_gone (gone_of g.J.Terms.endless g.J.Terms.capacity (state s v)) number ≡ false) (sym c.self.view_is) there in
    subst (λ v. letter_at (state s v).letters number ≡ None) c.self.view_is
    (none_sent w b.letters (within c.self.invariant.0) c.self.invariant.0.sent number (sym c.of.ensures ∙ ap option_copied none) (ap (λ n. is_gone n number) c.self.invariant.0.gone ∙ here))
