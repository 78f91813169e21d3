use Rattle.std.proofs.Common.{◌∙◌, ap, length, subst}
use mathlib.Core.List.{IsPrefix}
use Rattle.rambo_roll.specs.Stocks.{StockView}
use Rattle.rambo_book.specs.Kept.{BookView}
use Rattle.rambo_book.proofs.book.Book.begun.Goals as goal

pub returns-clause-begins : goal.returns-clause-begins
returns-clause-begins g c = subst (IsPrefix c.args.seen.now) (ap (λ (b : BookView _). b.steps) c.self.view_is) c.begins.ensures.begins

pub returns-clause-count : goal.returns-clause-count
returns-clause-count g c = c.len.ensures ∙ ap (λ (v : StockView _). length v.all) c.begins.ensures.stock ∙ ap (λ (b : BookView _). length b.steps) c.self.view_is
