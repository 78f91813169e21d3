use Rattle.std.proofs.Common.{sym, ◌∙◌}
use Rattle.rambo_book.proofs.Refused.{always}
use Rattle.rambo_book.proofs.committing.may_commit.Goals as goal

pub judge-requires : goal.judge-requires
judge-requires g c = (let there = sym c.has_gone.ensures ∙ c.if-has_gone.false in (c.requires-raw.1.1.1.0, (there, c.requires there)))

pub returns-clause-there : goal.returns-clause-there
returns-clause-there g c = always c.judge.result (sym c.has_gone.ensures ∙ c.if-has_gone.false)
