use Rattle.std.proofs.Common.{◌∙◌, ap, map}
use Rattle.std.proofs.lemmas.Result.{IfOk-weaker}
use Rattle.rambo_sequence.specs.declared.ranking.RankedCall.{RankedCall}
use Rattle.rambo_sequence.specs.Marks.{marks_at}
use Rattle.rambo_sequence.specs.RankedCalls.{sorted_calls}
use Rattle.rambo_sequence.proofs.RankedLists.{sequence_of-ranked}
use Rattle.rambo_sequence.proofs.given.sequence.Goals as goal

pub returns-clause-given : goal.returns-clause-given
returns-clause-given c =
    IfOk-weaker c.in_order.result _ _ (λ s h.
    h ∙ ap (λ l. map (λ (r : RankedCall). r.id) (sorted_calls l)) c.in_ok-calls_of.ensures
    ∙ sequence_of-ranked c.args.history.now.events (marks_at c.args.history.now.events c.args.marks.now) c.args.key.now) c.in_order.ensures.sorted
