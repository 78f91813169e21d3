use Rattle.std.proofs.Common.{◌≡◌, refl, ap, ◌∙◌}
use Rattle.rambo_book.specs.Kept.{BookView}
use Rattle.rambo_post.proofs.shown.draw_in.Goals as goal

pub returns-then-not-draw-clause-same : goal.returns-then-not-draw-clause-same
returns-then-not-draw-clause-same g c = λ is. let same = c.draw.ensures.same c.if-not-draw.true in (same.1, same.2, refl)

pub returns-clause-given : goal.returns-clause-given
returns-clause-given g c = λ is. (c.draw.ensures.given c.if-not-draw.false).0

pub returns-clause-drawn : goal.returns-clause-drawn
returns-clause-drawn g c = λ is. (c.draw.ensures.given c.if-not-draw.false).1

pub returns-clause-shown : goal.returns-clause-shown
returns-clause-shown g c = λ is. c.see_all.ensures.all ∙ ap (λ (b : BookView _). b.steps) c.draw.ensures.book
