use Rattle.std.proofs.Common.{sym, ◌∙◌, true≢false}
use Rattle.rambo_book.proofs.Refused.{always}
use Rattle.rambo_book.proofs.Windows.{none_delivered}
use Rattle.rambo_book.proofs.committing.commit.Goals as goal

pub commit_there-requires : goal.commit_there-requires
commit_there-requires g c = (let there = sym c.has_gone.ensures ∙ c.if-has_gone.false in (c.requires-raw.1.1.1.0, (there, c.requires there)))

pub returns-clause-there : goal.returns-clause-there
returns-clause-there g c = always c.commit_there.result (sym c.has_gone.ensures ∙ c.if-has_gone.false)

pub returns-then-has_gone-clause-bounded : goal.returns-then-has_gone-clause-bounded
returns-then-has_gone-clause-bounded g c = λ bounded. absurd (true≢false (sym c.if-has_gone.true ∙ c.has_gone.ensures ∙ none_delivered _ c.args.step (c.facts.ensures.kept bounded)))
