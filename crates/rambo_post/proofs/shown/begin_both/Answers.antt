use Rattle.std.proofs.Common.{◌≡◌, sym, ap, ◌∙◌, subst}
use mathlib.Core.List.{IsPrefix}
use Rattle.rambo_book.specs.Kept.{BookView}
use Rattle.rambo_post.proofs.shown.begin_both.Goals as goal

pub returns-clause-begins : goal.returns-clause-begins
returns-clause-begins g c =
    let all = c.args.book.now.steps in
    (subst (λ l. IsPrefix l all) c.shown.view_is (subst (λ (b : BookView _). IsPrefix c.shown.inside.front b.steps) c.begins.ensures.book c.begun-count.ensures.begins), c.begins.ensures.begins)
