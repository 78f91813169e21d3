use Rattle.std.proofs.Common.{sym, ap, ◌∙◌}
use Rattle.std.specs.FinMap.{get}
use Rattle.rambo_tag.specs.Copies.{joined}
use Rattle.rambo_tag.proofs.CopyOrder.{is_below, is_newer-is_below}
use Rattle.rambo_tag.proofs.Joins.{get-joined, joined-idem, joined-comm, joined-assoc, joined-not_below}
use Rattle.rambo_tag.proofs.Logged.{greatest_of-append}
use Rattle.rambo_tag.proofs.merging.merging_laws.Goals as goal

pub returns-clause-idempotent : goal.returns-clause-idempotent
returns-clause-idempotent c = joined-idem

pub returns-clause-commutative : goal.returns-clause-commutative
returns-clause-commutative c = joined-comm

pub returns-clause-associative : goal.returns-clause-associative
returns-clause-associative c = joined-assoc

pub returns-clause-grows : goal.returns-clause-grows
returns-clause-grows c a b key v held =
    is_newer-is_below (get (joined a b) key) v ∙ ap (is_below (get (joined a b) key)) (sym held) ∙ joined-not_below a b key

pub returns-clause-greater : goal.returns-clause-greater
returns-clause-greater c = get-joined

pub returns-clause-logs : goal.returns-clause-logs
returns-clause-logs c = greatest_of-append
