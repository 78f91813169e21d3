use Rattle.std.proofs.Common.{drop, ap, ◌∙◌}
use Rattle.rambo_mail.specs.Waiting.{MailState, numbers_of, waiting_for, with_waiting}
use Rattle.rambo_book.specs.Kept.{BookView}
use Rattle.rambo_book.proofs.Posting.{numbers_rest}
use Rattle.rambo_book.proofs.book.Book.drop_mail.Goals as goal

pub returns : goal.returns
returns g c =
    let b = c.self.inside in
    let n = c.args.name in
    let dropped = c.drop_first.ensures in
    let waiting = ap (λ (m : MailState). numbers_of m.waiting) dropped ∙ numbers_rest b.mails.waiting n in
    (λ i. record { founders = b.founders; steps = b.steps.all; drawn = b.steps.drawn; capacity = b.capacity; ahead = b.ahead; waiting = waiting i; lose = (dropped i).lose; twice = (dropped i).twice })
    ∙ ap (λ (b : BookView _). record b { waiting = with_waiting b.waiting n (drop 1 (waiting_for b.waiting n)) }) c.self.view_is
