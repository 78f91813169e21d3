use Rattle.std.proofs.Common.{option_map, slice_get, ap, ◌∙◌}
use Rattle.rambo_mail.specs.Waiting.{number_of, waiting_for}
use Rattle.rambo_book.specs.Kept.{BookView}
use Rattle.rambo_book.proofs.Posting.{first_number}
use Rattle.rambo_book.proofs.book.Book.first_mail.Goals as goal

pub returns : goal.returns
returns g c =
    ap (option_map number_of) c.first.ensures
    ∙ first_number c.self.inside.mails.waiting c.args.name
    ∙ ap (λ (b : BookView _). slice_get (waiting_for b.waiting c.args.name) 0) c.self.view_is
