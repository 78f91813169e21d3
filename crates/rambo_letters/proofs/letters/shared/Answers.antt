use Rattle.std.proofs.Common.{◌∙◌, [], append-nil, slice_get, sym, ap}
use Rattle.rambo_letters.proofs.letters.shared.Goals as goal

pub is_told_at-requires : goal.is_told_at-requires
is_told_at-requires g c = assumption

pub returns-then-is_told_at-clause-at : goal.returns-then-is_told_at-clause-at
returns-then-is_told_at-clause-at g c = ap (λ ms. slice_get ms c.args.latest) (sym c.as_slice.ensures.value) ∙ c.is_told_at.ensures c.if-is_told_at.true

pub returns-then-is_told_at-clause-grows : goal.returns-then-is_told_at-clause-grows
returns-then-is_told_at-clause-grows g c = ([], sym (append-nil c.args.standings.now.items))

pub added-requires : goal.added-requires
added-requires g c = assumption

pub returns-clause-at : goal.returns-clause-at
returns-clause-at g c = c.added.ensures.at

pub returns-clause-grows : goal.returns-clause-grows
returns-clause-grows g c = c.added.ensures.grows

pub returns-clause-refused : goal.returns-clause-refused
returns-clause-refused g c = c.added.ensures.refused
