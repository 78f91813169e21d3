use Rattle.std.proofs.lemmas.Grind.{common_steps, elements}
use Rattle.std.proofs.Common.{◌∙◌, ap, length, subst, arith}
use mathlib.Core.List.{IsPrefix}
use Rattle.rambo_roll.specs.Stocks.{StockView}
use Rattle.rambo_book.specs.Kept.{BookView}
use Rattle.rambo_book.proofs.book.Book.show.Goals as goal

pub returns-clause-begins : goal.returns-clause-begins
returns-clause-begins g c = subst (IsPrefix c.args.seen.now) (ap (λ (b : BookView _). b.steps) c.self.view_is) c.begins.ensures.begins

pub returns-clause-count : goal.returns-clause-count
returns-clause-count g c = c.len.ensures ∙ ap (λ (v : StockView _). length v.all) (c.front.ensures.stock ∙ c.begins.ensures.stock) ∙ ap (λ (b : BookView _). length b.steps) c.self.view_is

pub invariant_of-self : goal.invariant_of-self
invariant_of-self g c = grind (arith, common_steps)

pub returns-clause-founders : goal.returns-clause-founders
returns-clause-founders g c = grind (arith, common_steps)

pub returns-clause-seen : goal.returns-clause-seen
returns-clause-seen g c = grind (arith, common_steps)

pub returns-clause-capacity : goal.returns-clause-capacity
returns-clause-capacity g c = grind (arith, common_steps)

pub returns-clause-legal : goal.returns-clause-legal
returns-clause-legal g c = grind (arith, elements)
