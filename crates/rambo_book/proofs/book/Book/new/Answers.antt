use Rattle.std.proofs.Common.{◌∙◌, not, ap}
use Rattle.rambo_book.proofs.Books.{first_of}
use Rattle.rambo_book.proofs.Windows.{window_is}
use Rattle.rambo_book.proofs.book.Book.new.Goals as goal

pub invariant_of-result : goal.invariant_of-result
invariant_of-result g c = (
  first_of g.Q.Quorums.system g.J.Terms.founders g.J.Terms.capacity g.J.Terms.endless c.args.founders c.new.result.all c.new-2.result c.new-3.result c.args.capacity c.new.result.drawn c.args.ahead
      c.requires.founders c.requires.capacity c.new.ensures.all c.new-2.ensures.gone c.new-2.ensures.kept (c.new-2.ensures.window ∙ window_is g.J.Terms.endless g.J.Terms.capacity c.args.keeps_all c.args.capacity c.window_for.result c.window_for.ensures c.requires.keeps_all c.requires.capacity) c.new.ensures.drawn c.new-3.ensures.empty
      (λ bounded. c.new-3.ensures.all ∙ c.requires.keeps_all ∙ ap not bounded),
  c.requires.lose,
  c.requires.twice,
)
