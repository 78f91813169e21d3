use Rattle.std.specs.Option.{option_copied}
use Rattle.rambo_history.specs.Histories.{answer_in}
use Rattle.rambo_run.specs.Chronicles.{ChronicleView}
use Rattle.rambo_book.proofs.Recording.{kept_known}
use Rattle.rambo_book.proofs.book.Book.answer.Goals as goal

pub returns-clause-kept : goal.returns-clause-kept
returns-clause-kept g c = λ bounded. kept_known c.self.inside.kept.all c.answer.result option_copied (λ (v : ChronicleView). answer_in v.events c.args.id.now) (c.self.invariant.0.whole bounded) c.answer.ensures.all
