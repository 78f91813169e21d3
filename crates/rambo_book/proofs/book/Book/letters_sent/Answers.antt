use Rattle.std.proofs.Common.{length, ◌∙◌, ap, arith}
use Rattle.rambo_book.specs.Kept.{state}
use Rattle.rambo_book.proofs.Books.{all_counted, all_few}
use Rattle.rambo_book.proofs.book.Book.letters_sent.Goals as goal

pub sent-requires : goal.sent-requires
sent-requires g c = (let few = all_few c.self.invariant.0 in omega (arith, few, c.len-steps.ensures))

pub returns : goal.returns
returns g c = c.sent.ensures ∙ all_counted c.self.invariant.0 ∙ ap (λ v. length (state g.Q.Quorums.system v).letters) c.self.view_is
