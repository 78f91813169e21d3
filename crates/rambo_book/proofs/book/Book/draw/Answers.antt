use Rattle.std.proofs.Common.{ap}
use Rattle.rambo_roll.specs.Stocks.{StockView}
use Rattle.rambo_book.proofs.Books.{drawn_book}
use Rattle.rambo_book.proofs.book.Book.draw.Goals as goal

pub invariant_of-self : goal.invariant_of-self
invariant_of-self g c =
    let b = drawn_book c.draw.new.self.all c.draw.new.self.drawn c.draw.result c.requires.endless c.self.invariant.0 c.draw.ensures.all (λ done. (c.draw.ensures.given done).2) (λ not. ap (λ (v : StockView _). v.drawn) (c.draw.ensures.same not).0) in
    (b, c.self.invariant.1, c.self.invariant.2)
